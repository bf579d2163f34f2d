use Rattle.std.proofs.Common.{◌≡◌, ℕ, false, eqb, ◌-◌, ◌≤◌, ◌++◌, ◌⊎◌, inl, inr, [], length, take, drop, min, sym, ap, subst, ◌∙◌, arith}
use Rattle.std.proofs.lemmas.Bool.{eqb-true}
use Rattle.std.proofs.lemmas.Bool.Decides.{nat_tests}
use Rattle.std.proofs.lemmas.Grind.{flat_map-append}
use Rattle.std.proofs.lemmas.List.{length-append}
use Rattle.link_queue.specs.Lines.{IsWithinFirst, text_bytes}
use Rattle.link_queue.specs.Pieces.{ArePieces, lines_in, lines_of}
use Rattle.link_queue.specs.Queues.{pending_bytes}
use Rattle.link_queue.proofs.LineLemmas.{put_twice, same_further, two_parts}
use Rattle.link_queue.proofs.PieceLemmas.{as_many, both_are, no_line}
use Rattle.link_queue.proofs.queue.Queue.front_bytes.Goals as goal
use Rattle.link_queue.proofs.queue.Queue.front_bytes.Goals.{then-is_empty, else-is_empty}

whole_room : (n : ℕ) → n - 0 ≡ n
whole_room n = omega arith

filled : (n m : ℕ) → eqb n 0 ≡ false → n ≤ m → 1 ≤ m
filled n m some same = grind (arith, nat_tests)

-- the first part's rest and the second part, as what is pending
parts : (c : goal.After-slice_known-3-1) →
    drop c.self.inside.offset (text_bytes (lines_in c.as_slices.result.0.now)) ++ drop c.if-is_empty.skip (text_bytes (lines_in c.as_slices.result.1.now))
    ≡ pending_bytes c.args.self.now
parts c =
    let front = c.as_slices.result.0.now in
    let back = c.as_slices.result.1.now in
    let whole = sym (flat_map-append lines_of front back) ∙ ap lines_in c.as_slices.ensures in
    let are = both_are front back (subst ArePieces (sym c.as_slices.ensures) c.self.invariant.pieces_are) in
    let first = elim c.if-is_empty.branch as (λ _. ((length (lines_in front) ≡ 0) × (c.if-is_empty.skip ≡ c.self.inside.offset)) ⊎ ((1 ≤ length (lines_in front)) × (c.if-is_empty.skip ≡ 0))) [
      | then-is_empty w ↦ inl (no_line front (eqb-true (length front) 0 (sym c.is_empty.ensures ∙ w.if-is_empty.true)), w.skip-is)
      | else-is_empty w ↦ let some : eqb (length front) 0 ≡ false = sym c.is_empty.ensures ∙ w.if-is_empty.false in inr (filled (length front) (length (lines_in front)) some (as_many front are.0), w.skip-is)
    ] in
    two_parts (lines_in front) (lines_in back) c.self.inside.offset c.if-is_empty.skip first (subst (λ xs. IsWithinFirst xs c.self.inside.offset) (sym whole) c.self.invariant.sound.begun)
    ∙ ap (λ xs. drop c.self.inside.offset (text_bytes xs)) whole ∙ ap pending_bytes c.self.view_is

pub returns-clause-count : goal.returns-clause-count
returns-clause-count c =
    let front = lines_in c.as_slices.result.0.now in
    let back = lines_in c.as_slices.result.1.now in
    let sum = sym (length-append (drop c.self.inside.offset (text_bytes front)) (drop c.if-is_empty.skip (text_bytes back))) ∙ ap length (parts c) in
    let same = c.put_pieces-at.auto.out in
    let first = c.put_pieces-at.ensures.end in
    let second = c.put_pieces.ensures.end in
    omega (arith, sum, same, first, second)

pub returns-clause-bytes : goal.returns-clause-bytes
returns-clause-bytes c =
    let front = drop c.self.inside.offset (text_bytes (lines_in c.as_slices.result.0.now)) in
    let back = drop c.if-is_empty.skip (text_bytes (lines_in c.as_slices.result.1.now)) in
    let room = length c.args.out.now in
    let end : c.put_pieces-at.result ≡ min room (length front) = omega (arith, c.put_pieces-at.ensures.end) in
    let same : length c.put_pieces-at.new.out ≡ room = c.put_pieces-at.auto.out in
    let left : length c.put_pieces-at.new.out - c.put_pieces-at.result ≡ room - min room (length front) = omega (arith, end, same) in
    let first : take c.put_pieces-at.result c.put_pieces-at.new.out ≡ take room front = c.put_pieces-at.ensures.bytes ∙ ap (λ n. take n front) (whole_room room) in
    c.put_pieces.ensures.bytes
    ∙ ap (λ bytes. bytes ++ take (length c.put_pieces-at.new.out - c.put_pieces-at.result) back) first
    ∙ ap (λ n. take room front ++ take n back) left
    ∙ put_twice room [] front back
    ∙ ap (take room) (parts c)

pub returns-clause-rest : goal.returns-clause-rest
returns-clause-rest c =
    let more = c.put_pieces.ensures.end in
    c.put_pieces.ensures.rest ∙ same_further c.put_pieces-at.result c.put_pieces.result _ _ (omega (arith, more)) c.put_pieces-at.ensures.rest

pub put_pieces-at-requires-clause-are : goal.put_pieces-at-requires-clause-are
put_pieces-at-requires-clause-are c = (both_are c.as_slices.result.0.now c.as_slices.result.1.now (subst ArePieces (sym c.as_slices.ensures) c.self.invariant.pieces_are)).0

pub put_pieces-requires-clause-are : goal.put_pieces-requires-clause-are
put_pieces-requires-clause-are c = (both_are c.as_slices.result.0.now c.as_slices.result.1.now (subst ArePieces (sym c.as_slices.ensures) c.self.invariant.pieces_are)).1
