-- Line ends, counted by the places where they begin.
use Rattle.std.proofs.Common.{◌≡◌, ℕ, ◌+◌, ◌≤◌, ◌<◌, ◌==◌, ◌||◌, Bool, true, false, List, [], ◌∷◌, length, drop, get_or, zero, suc, refl, sym, ap, ◌∙◌, arith, if◌then◌else◌}
use Rattle.std.proofs.lemmas.Bool.{false_from_ne_true}
use Rattle.std.proofs.lemmas.Bool.Decides.{nat_tests}
use Rattle.mio_wire.specs.Pacing.{ends_at, line_ends}

abbrev pub is_end : ℕ → Bool
is_end b = b == 13 || b == 10

-- a byte that is neither CR nor LF ends no line
not_end : (b : ℕ) (after : List ℕ) → is_end b ≡ false → ends_at b after ≡ false
not_end b after other = grind (arith, nat_tests)

-- what stands before the first CR or LF has no line ends
pub ends_below : (bytes : List ℕ) (place : ℕ) → place ≤ length bytes → ((k : ℕ) → k < place → is_end (get_or bytes k 0) ≡ true → ⊥) → line_ends (drop place bytes) ≡ line_ends bytes
ends_below bytes zero within none = refl
ends_below [] (suc n) within none = refl
ends_below (b ∷ bs) (suc n) within none =
    let other : is_end b ≡ false = false_from_ne_true (is_end b) (none 0 (omega arith)) in
    let later = ends_below bs n (omega arith) (λ k lt passes. none (suc k) (omega arith) passes) in
    let here : line_ends (b ∷ bs) ≡ 0 + line_ends bs = ap (λ e. (if e then 1 else 0) + line_ends bs) (not_end b bs other) in
    let same : 0 + line_ends bs ≡ line_ends bs = omega arith in
    later ∙ sym same ∙ sym here
