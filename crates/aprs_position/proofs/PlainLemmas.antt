-- The plain form: its definition on a text, and its grammar.
use Rattle.std.proofs.Common.{◌≡◌, ℕ, ◌+◌, Bool, true, false, cond, List, [], ◌∷◌, drop, refl, arith}
use Rattle.std.specs.List.{list_all, prefix_len}
use Rattle.std.proofs.lemmas.Grind.{common_steps}
use Rattle.std.specs.Char.{is_ascii_digit}
use Rattle.aprs_base.specs.Bytes.{is_blank}
use Rattle.aprs_position.specs.Plain.{ends_in_blanks}

-- at one more byte, by whether it's a digit
more_digits : (digit : Bool) (x : ℕ) (xs : List ℕ) (n : ℕ) (rest : Bool) → list_all is_blank (drop n xs) ≡ rest →
    list_all is_blank (drop (cond digit (1 + n) 0) (x ∷ xs)) ≡ cond digit rest (list_all is_blank (x ∷ xs))
more_digits true x xs n rest h = grind (arith, common_steps)
more_digits false x xs n rest h = refl

-- what follows the leading digits is blank
pub blank_after_digits : (xs : List ℕ) → list_all is_blank (drop (prefix_len is_ascii_digit xs) xs) ≡ ends_in_blanks xs
blank_after_digits [] = refl
blank_after_digits (x ∷ xs) = more_digits (is_ascii_digit x) x xs (prefix_len is_ascii_digit xs) _ (blank_after_digits xs)
