-- The definition of the latitude on its six bytes.
use Rattle.std.proofs.Common.{◌≡◌, ℕ, ◌+◌, ◌*◌, ◌<◌, Bool, List, [], ◌∷◌, length, get_or, Some, refl, sym, ◌∙◌, arith}
use Rattle.std.specs.declared.option.Option.{Option}
use Rattle.std.proofs.lemmas.Bool.{lt-ltb}
use Rattle.mic_e.specs.MicE.{digit_of, from_equator, is_set, late_digit_of, pair}

pub six : (xs : List ℕ) → length xs ≡ 6 → xs ≡ get_or xs 0 0 ∷ get_or xs 1 0 ∷ get_or xs 2 0 ∷ get_or xs 3 0 ∷ get_or xs 4 0 ∷ get_or xs 5 0 ∷ []
six (a ∷ b ∷ c ∷ d ∷ e ∷ f ∷ []) h = refl
six _ h = absurd (omega arith)

pub equator_is : (base : List ℕ) (a b c d e f degrees minutes hundredths : ℕ) (north : Bool) → base ≡ a ∷ b ∷ c ∷ d ∷ e ∷ f ∷ [] →
    pair (digit_of a) (digit_of b) ≡ Some degrees → pair (digit_of c) (late_digit_of d) ≡ Some minutes → pair (late_digit_of e) (late_digit_of f) ≡ Some hundredths →
    minutes < 60 → north ≡ is_set d → from_equator base ≡ Some (record { positive = north; degrees = degrees; hundredths = minutes * 100 + hundredths })
unfolding from_equator
equator_is base a b c d e f degrees minutes hundredths north cells whole before after below is = rw (cells, whole, before, after, lt-ltb _ _ below, is) refl

pub pair_is : (tens ones result a b : Option ℕ) (n : ℕ) → result ≡ pair tens ones → tens ≡ a → ones ≡ b → result ≡ Some n → pair a b ≡ Some n
pair_is tens ones result a b n is first second given = rw (← first, ← second) (sym is ∙ given)
