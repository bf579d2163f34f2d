-- The states that follow one another, taken in parts.
use Rattle.std.proofs.Common.{◌≡◌, ◌∙◌, ℕ, zero, suc, ◌+◌, ◌-◌, ◌*◌, ◌≤◌, min, ◌∷◌, take, drop, refl, ap, arith}
use Rattle.std.specs.Fork.{slice_chunk}
use Rattle.drill_plan.specs.Drill.{next_state, state_after, states}

drop_states : (k n x : ℕ) → k ≤ n → drop k (states n x) ≡ states (n - k) (state_after k x)
drop_states zero n x le = let e : n - 0 ≡ n = omega arith in rw e refl
drop_states (suc k) zero x le = absurd (omega arith)
drop_states (suc k) (suc n) x le =
    let e : suc n - suc k ≡ n - k = omega arith in
    rw e (drop_states k n (next_state x) (omega arith))

take_states : (k n x : ℕ) → take k (states n x) ≡ states (min n k) x
take_states zero n x = let e : min n 0 ≡ 0 = omega arith in rw e refl
take_states (suc k) zero x = let e : min 0 (suc k) ≡ 0 = omega arith in rw e refl
take_states (suc k) (suc n) x =
    let e : min (suc n) (suc k) ≡ suc (min n k) = omega arith in
    rw e (ap (λ xs. next_state x ∷ xs) (take_states k n (next_state x)))

-- the n-th hundred follows from the state before it
pub chunk_is : (n lines seed : ℕ) → n * 100 ≤ lines → slice_chunk (states lines seed) 100 n ≡ states (min (lines - n * 100) 100) (state_after (n * 100) seed)
chunk_is n lines seed le = ap (take 100) (drop_states (n * 100) lines seed le) ∙ take_states 100 (lines - n * 100) (state_after (n * 100) seed)

after_sum : (k m x : ℕ) → state_after m (state_after k x) ≡ state_after (k + m) x
after_sum zero m x = let e : 0 + m ≡ m = omega arith in rw e refl
after_sum (suc k) m x = let e : suc k + m ≡ suc (k + m) = omega arith in rw e (after_sum k m (next_state x))

pub state_then : (n lines seed : ℕ) → n * 100 ≤ lines → state_after (min (lines - n * 100) 100) (state_after (n * 100) seed) ≡ state_after (min lines ((n + 1) * 100)) seed
state_then n lines seed le =
    let e : n * 100 + min (lines - n * 100) 100 ≡ min lines ((n + 1) * 100) = omega arith in
    rw (after_sum (n * 100) (min (lines - n * 100) 100) seed, e) refl
