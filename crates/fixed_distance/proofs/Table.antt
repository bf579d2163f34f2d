-- The table of the sine rises, and so does the straight line through it.
use Rattle.std.proofs.Common.{◌≡◌, ℕ, zero, suc, ◌+◌, ◌-◌, ◌<◌, ◌≤◌, Bool, true, ◌&&◌, nat_lt, List, [], ◌∷◌, length, slice_index, refl, arith, add-one}
use Rattle.std.proofs.lemmas.Bool.Decides.{nat_tests}
use Rattle.fixed_distance.specs.Distance.{sines}

-- each number of a list is below the next
abbrev pub all_rise : List ℕ → Bool
all_rise [] = true
all_rise (a ∷ []) = true
all_rise (a ∷ b ∷ xs) = nat_lt a b && all_rise (b ∷ xs)

pub rise_at : (xs : List ℕ) (k : ℕ) → all_rise xs ≡ true → k + 1 < length xs → slice_index xs k < slice_index xs (k + 1)
rise_at [] k t h = absurd (omega arith)
rise_at (a ∷ []) k t h = absurd (omega arith)
rise_at (a ∷ b ∷ xs) zero t h = grind (arith, nat_tests)
rise_at (a ∷ b ∷ xs) (suc k) t h =
    let rest : all_rise (b ∷ xs) ≡ true = grind (arith, nat_tests) in
    let next = rise_at (b ∷ xs) k rest (omega arith) in
    rw (add-one (suc k)) (rw (add-one k) at next)

pub sines-length : length sines ≡ 91
sines-length = refl

pub sines-rise : (k : ℕ) → k < 90 → slice_index sines k < slice_index sines (k + 1)
sines-rise k h = rise_at sines k refl (omega (arith, sines-length))

-- a number of the table is at most each later one
pub sines-below : (k j : ℕ) → k + j ≤ 90 → slice_index sines k ≤ slice_index sines (k + j)
sines-below k zero h = rw (let e : k + 0 ≡ k = omega arith in e) (omega arith)
sines-below k (suc j) h =
    let below = sines-below k j (omega arith) in
    let next = sines-rise (k + j) (omega arith) in
    let e : k + suc j ≡ k + j + 1 = omega arith in
    rw e (omega arith)

pub sines-bound : (k : ℕ) → k ≤ 90 → slice_index sines k ≤ 1000000
sines-bound k h =
    let below = sines-below k (90 - k) (omega arith) in
    let e : k + (90 - k) ≡ 90 = omega arith in
    rw e at below
