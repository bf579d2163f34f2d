-- What lines leave of a link that takes as many of them as fit.
use Rattle.std.proofs.Common.{◌≡◌, ℕ, zero, suc, ◌^◌, ◌+◌, ◌-◌, ◌<◌, ◌≤◌, min, ◌||◌, nat_lt, Bool, true, List, [], ◌∷◌, ◌++◌, length, take, drop, refl, ap, sym, ◌∙◌, inl, inr, arith, append_assoc, append-nil, length-append, take_all}
use Rattle.std.proofs.Math.Bool.{or-false, or-true}
use Rattle.std.proofs.lemmas.Bool.{cases_eq, cases_lt, le-ltb, lt-ltb}
use Rattle.std.proofs.lemmas.List.{length-drop, length-take, length-take-le, take-append-le, take_min}
use Rattle.std.proofs.Math.Seq.{take-append-add}
use Rattle.link_queue.specs.Queues.{QueueSeen, with_line, with_lines}
use Rattle.worker_match.specs.Seen.{FeedSeen}
use Rattle.worker_match.specs.Walk.{one_more, with_copy}
use Rattle.worker_match.specs.Runs.{with_run}
use Rattle.worker_match.proofs.PushLemmas.{full_is, not_full}

pub run_is : (link : FeedSeen) (queue other : QueueSeen) (put count : ℕ) (over last : Bool) → queue ≡ other → put ≡ count → over ≡ last
    → record link { queue = queue; put = put; over = over } ≡ record link { queue = other; put = count; over = last }
run_is link queue other put count over last a b c = rw (a, b, c) refl

less_taken : (room size : ℕ) → nat_lt (min room size) size ≡ nat_lt room size
less_taken room size = elim (cases_lt room size) [
  | inl less ↦ lt-ltb (min room size) size (omega arith) ∙ sym (lt-ltb room size less)
  | inr enough ↦ le-ltb (min room size) size (omega arith) ∙ sym (le-ltb room size enough)
]

take_within : {X : Type 0} (n m : ℕ) (xs : List X) → n ≤ m → take n (take m xs) ≡ take n xs
take_within zero m xs le = refl
take_within (suc n) zero xs le = absurd (omega arith)
take_within (suc n) (suc m) [] le = refl
take_within (suc n) (suc m) (x ∷ xs) le = ap (λ ys. x ∷ ys) (take_within n m xs (omega arith))

-- a stretch of lines, as many as fit
pub run_taken : (lines : List (List ℕ)) (from to : ℕ) (inside now : FeedSeen) (queue : QueueSeen) (put count : ℕ) (over : Bool) → inside ≡ now
    → (from ≤ to) × (to ≤ length lines) → queue ≡ with_lines (take count (drop from lines)) inside.queue
    → count ≡ min (inside.queue.limit - length inside.queue.lines) (to - from)
    → put ≡ min (inside.put + count) (2 ^ 64 - 1) → over ≡ (inside.over || nat_lt count (to - from))
    → record inside { queue = queue; put = put; over = over } ≡ with_run (take (to - from) (drop from lines)) now
unfolding with_run
run_taken lines from to inside now queue put count over is within more many counted short =
    let room = inside.queue.limit - length inside.queue.lines in
    let run = take (to - from) (drop from lines) in
    let left : length (drop from lines) ≡ length lines - from = length-drop from lines in
    let size : length run ≡ to - from = length-take-le (to - from) (drop from lines) (omega arith) in
    let taken : count ≡ min room (length run) = omega arith in
    let few : count ≤ to - from = omega arith in
    run_is inside _ _ _ _ _ _
    (more ∙ ap (λ xs. with_lines xs inside.queue) (sym (take_within count (to - from) (drop from lines) few) ∙ ap (λ n. take n run) taken))
    (counted ∙ ap (λ n. min (inside.put + n) (2 ^ 64 - 1)) taken)
    (short ∙ ap (λ n. inside.over || nat_lt n (to - from)) taken ∙ ap (λ n. inside.over || nat_lt (min room (length run)) n) (sym size)
    ∙ ap (λ b. inside.over || b) (less_taken room (length run)))
    ∙ ap (with_run run) is

-- as many of two lists as fit
both_fit : (room : ℕ) (first second : List (List ℕ)) → take room (first ++ second) ≡ take room first ++ take (room - length first) second
both_fit room first second = elim (cases_lt room (length first)) [
  | inl less ↦
      take-append-le room first second (omega arith) ∙ sym (append-nil (take room first))
      ∙ ap (λ n. take room first ++ take n second) (let none : 0 ≡ room - length first = omega arith in none)
  | inr enough ↦
      ap (λ n. take n (first ++ second)) (let sum : room ≡ length first + (room - length first) = omega arith in sum)
      ∙ take-append-add first second (room - length first)
      ∙ ap (λ xs. xs ++ take (room - length first) second) (sym (take_all room first enough))
]

over_either : (over : Bool) (room left first second both : ℕ) → both ≡ first + second → left ≡ room - first
    → (over || nat_lt room both) ≡ ((over || nat_lt room first) || nat_lt left second)
over_either over room left first second both sum rest = elim (cases_lt room first) [
  | inl less ↦
      ap (λ b. over || b) (lt-ltb room both (omega arith)) ∙ or-true over
      ∙ sym (ap (λ b. (over || b) || nat_lt left second) (lt-ltb room first less) ∙ ap (λ b. b || nat_lt left second) (or-true over))
  | inr enough ↦
      ap (λ b. over || b) (elim (cases_lt left second) [
        | inl less ↦ lt-ltb room both (omega arith) ∙ sym (lt-ltb left second less)
        | inr fits ↦ le-ltb room both (omega arith) ∙ sym (le-ltb left second fits)
      ])
      ∙ sym (ap (λ b. (over || b) || nat_lt left second) (le-ltb room first enough) ∙ ap (λ b. b || nat_lt left second) (or-false over))
]

module _ (link : FeedSeen) (few : length link.queue.lines ≤ link.queue.limit) (counted : link.put < 2 ^ 64) where
  -- one line
  pub one_taken : (line : List ℕ) → with_run (line ∷ []) link ≡ with_copy line link
  unfolding with_run with_copy
  one_taken line =
      let room = link.queue.limit - length link.queue.lines in
      elim (cases_eq (length link.queue.lines) link.queue.limit) [
        | inl full ↦ rw (full_is link.queue full)
            (ap (λ n. record link { queue = with_lines (take n (line ∷ [])) link.queue; put = min (link.put + n) (2 ^ 64 - 1); over = link.over || nat_lt room 1 })
            (let none : min room 1 ≡ 0 = omega arith in none)
            ∙ run_is link _ link.queue _ link.put _ true (ap (λ lines. record link.queue { lines = lines }) (append-nil link.queue.lines)) (omega arith)
            (ap (λ b. link.over || b) (lt-ltb room 1 (omega arith)) ∙ or-true link.over))
        | inr ne ↦ rw (not_full link.queue ne)
            (ap (λ n. record link { queue = with_lines (take n (line ∷ [])) link.queue; put = min (link.put + n) (2 ^ 64 - 1); over = link.over || nat_lt room 1 })
            (let one : min room 1 ≡ 1 = omega arith in one)
            ∙ run_is link _ (with_line line link.queue) _ (one_more link.put) _ link.over refl refl
            (ap (λ b. link.over || b) (le-ltb room 1 (omega arith)) ∙ or-false link.over))
      ]

  -- lines, and more after them
  pub both_taken : (first second : List (List ℕ)) → with_run (first ++ second) link ≡ with_run second (with_run first link)
  unfolding with_run
  both_taken first second =
      let room = link.queue.limit - length link.queue.lines in
      let size : length (first ++ second) ≡ length first + length second = length-append first second in
      let put = link.queue.lines ++ take (min room (length first)) first in
      let taken : length (take (min room (length first)) first) ≡ min (min room (length first)) (length first) = length-take (min room (length first)) first in
      let sum : length put ≡ length link.queue.lines + length (take (min room (length first)) first) = length-append link.queue.lines (take (min room (length first)) first) in
      let left : link.queue.limit - length put ≡ room - length first = omega arith in
      run_is link _ _ _ _ _ _
      (ap (λ lines. record link.queue { lines = link.queue.lines ++ lines })
      (take_min room (first ++ second) ∙ both_fit room first second
      ∙ ap (λ lines. lines ++ take (room - length first) second) (sym (take_min room first))
      ∙ ap (λ n. take (min room (length first)) first ++ take n second) (sym left)
      ∙ ap (λ lines. take (min room (length first)) first ++ lines) (sym (take_min (link.queue.limit - length put) second)))
      ∙ ap (λ lines. record link.queue { lines = lines }) (sym (append_assoc link.queue.lines (take (min room (length first)) first) (take (min (link.queue.limit - length put) (length second)) second))))
      (omega arith)
      (over_either link.over room (link.queue.limit - length put) (length first) (length second) (length (first ++ second)) size left)
