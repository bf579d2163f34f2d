-- The last byte of a text.
use Rattle.std.proofs.Common.{◌≡◌, ℕ, ◌+◌, ◌-◌, ◌<◌, ◌≤◌, Bool, true, false, cond, List, [], ◌∷◌, ◌++◌, take, length, get_or, refl, sym, ap, arith}
use Rattle.std.specs.List.{list_all}
use Rattle.std.proofs.Math.Seq.{take-append_seam, get_or-append_seam, get_or-append_right}
use Rattle.std.proofs.lemmas.List.{length-append, length-take}
use Rattle.std.proofs.lemmas.Bool.{ne_eqb, eq-eqb, eqb-true}
use Rattle.std.proofs.lemmas.List.Sums.{AllPass-from_list_all}
use Rattle.filter_lang.specs.Parts.{ends_in, without_last}

-- a byte that is put at the end
pub ends_in-put : (c : ℕ) (xs : List ℕ) → ends_in c (xs ++ c ∷ []) ≡ true
ends_in-put c xs =
    let size : length (xs ++ c ∷ []) - 1 ≡ length xs = omega (arith, length-append xs (c ∷ [])) in
    rw (size, get_or-append_seam xs c [] 0) (eq-eqb c c refl)

pub without_last-put : (c : ℕ) (xs : List ℕ) → without_last c (xs ++ c ∷ []) ≡ xs
without_last-put c xs =
    let size : length (xs ++ c ∷ []) - 1 ≡ length xs = omega (arith, length-append xs (c ∷ [])) in
    rw (ends_in-put c xs, size, take-append_seam xs (c ∷ [])) refl

-- a text whose last byte is another
pub without_last-same : (c : ℕ) (xs : List ℕ) → ends_in c xs ≡ false → without_last c xs ≡ xs
without_last-same c xs h = rw h refl

pub ends_in-other : (c : ℕ) (test : ℕ → Bool) (xs : List ℕ) → (c ≡ 0 → ⊥) → test c ≡ false → list_all test xs ≡ true → ends_in c xs ≡ false
ends_in-other c test [] nonzero other h = ne_eqb 0 c (λ e. nonzero (sym e))
ends_in-other c test (x ∷ xs) nonzero other h = ne_eqb (get_or (x ∷ xs) (length (x ∷ xs) - 1) 0) c (λ e.
    let last = AllPass-from_list_all test (x ∷ xs) h (length (x ∷ xs) - 1) 0 (omega arith) in
    let same = ap test e in
    cc)

-- the end of a longer text
pub ends_in-append : (c : ℕ) (xs ys : List ℕ) → 0 < length ys → ends_in c (xs ++ ys) ≡ ends_in c ys
ends_in-append c xs ys some =
    let place = get_or-append_right xs ys (length (xs ++ ys) - 1) 0 (omega (arith, length-append xs ys)) in
    let left : length (xs ++ ys) - 1 - length xs ≡ length ys - 1 = omega (arith, length-append xs ys) in
    rw (place, left) refl

pub ends_in-some : (c : ℕ) (xs : List ℕ) → (c ≡ 0 → ⊥) → ends_in c xs ≡ true → 0 < length xs
ends_in-some c [] nonzero h = absurd (nonzero (sym (eqb-true 0 c h)))
ends_in-some c (x ∷ xs) nonzero h = omega arith

-- how long a text is without its last byte
pub without_last-length : (c : ℕ) (xs : List ℕ) → length (without_last c xs) ≤ length xs
without_last-length c xs = by (ends_in c xs)
  where
    by : (b : Bool) → length (cond b (take (length xs - 1) xs) xs) ≤ length xs
    by true = omega (arith, length-take (length xs - 1) xs)
    by false = omega arith

pub without_last-shorter : (c : ℕ) (xs : List ℕ) → (c ≡ 0 → ⊥) → ends_in c xs ≡ true → length (without_last c xs) + 1 ≡ length xs
without_last-shorter c xs nonzero h =
    let some = ends_in-some c xs nonzero h in
    rw h (omega (arith, length-take (length xs - 1) xs))
