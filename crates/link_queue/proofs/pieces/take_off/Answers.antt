use Rattle.std.proofs.Common.{◌≡◌, ◌-◌, ◌≤◌, List, ◌∷◌, length, drop, sym, ap, subst, ◌∙◌, arith, length-append}
use Rattle.std.proofs.lemmas.List.{take_all}
use Rattle.link_queue.specs.Lines.{queued}
use Rattle.link_queue.specs.Pieces.{ArePieces, lines_in, lines_of}
use Rattle.link_queue.specs.declared.pieces.Piece.{Piece}
use Rattle.link_queue.proofs.LineLemmas.{queued_fewer, queued_part, queued_whole}
use Rattle.link_queue.proofs.PieceLemmas.{first_of}
use Rattle.link_queue.proofs.pieces.take_off.Goals as goal

-- what is left of the first piece is the first again
put_back : (c : goal.Joined-push_front) → c.push_front.new.self.items ≡ c.without-rest.result.piece ∷ drop 1 c.loop-piece.ring.items
put_back c =
    let size = ap length (first_of c.loop-piece.ring.items c.in-Some.piece c.in-Some.ensures.value) in
    let within = c.loop-piece.invariant.2 in
    rw (c.push_front.ensures.items, c.in-Some.ensures.items)
    (take_all c.loop-piece.ring.capacity (c.without-rest.result.piece ∷ drop 1 c.loop-piece.ring.items) (omega arith))

pub overflow_add-lines : goal.overflow_add-lines
overflow_add-lines c =
    let items = c.loop-piece.ring.items in
    let piece = c.in-Some.piece in
    let whole = first_of items piece c.in-Some.ensures.value in
    let many = ap (λ xs. length (lines_in xs)) whole ∙ length-append (lines_of piece) (lines_in (drop 1 items)) in
    let fewer = subst (λ q. length q.lines ≤ length (lines_of piece)) c.without-rest.ensures.left (queued_fewer (lines_of piece) c.loop-piece.left) in
    let lines = c.loop-piece.invariant.1 in
    omega arith

pub returns-then-left-size-clause-counted : goal.returns-then-left-size-clause-counted
returns-then-left-size-clause-counted c =
    let items = c.loop-piece.ring.items in
    let rest = lines_of c.without-rest.result.piece in
    let more = lines_in (drop 1 items) in
    let whole = ap (λ xs. length (lines_in xs)) (first_of items c.in-Some.piece c.in-Some.ensures.value) ∙ length-append (lines_of c.in-Some.piece) more in
    let after = ap (λ xs. length (lines_in xs)) (put_back c) ∙ length-append rest more in
    let lines = c.loop-piece.invariant.1 in
    omega arith

pub returns-then-left-size-clause-left : goal.returns-then-left-size-clause-left
returns-then-left-size-clause-left c =
    let items = c.loop-piece.ring.items in
    let piece = c.in-Some.piece in
    let rest = lines_of c.without-rest.result.piece in
    let more = lines_in (drop 1 items) in
    let offset = c.without-rest.result.offset in
    sym c.loop-piece.invariant.3
    ∙ ap (λ xs. queued (lines_in xs) c.loop-piece.left) (first_of items piece c.in-Some.ensures.value)
    ∙ queued_part (lines_of piece) more rest c.loop-piece.left offset (omega arith) c.without-rest.ensures.left
    ∙ ap (λ (xs : List Piece). record { lines = lines_in xs; offset = offset }) (sym (put_back c))

pub loop-piece-preserved : goal.loop-piece-preserved
loop-piece-preserved c =
    let items = c.loop-piece.ring.items in
    let piece = c.in-Some.piece in
    let more = drop 1 items in
    let whole : items ≡ piece ∷ more = first_of items piece c.in-Some.ensures.value in
    let size = ap length whole in
    let many = ap (λ xs. length (lines_in xs)) whole ∙ length-append (lines_of piece) (lines_in more) in
    let lines = c.loop-piece.invariant.1 in
    let within = c.loop-piece.invariant.2 in
    let left = c.loop-piece.left in
    let taken = ap (λ n. queued (lines_in more) (left - n)) c.size-size.ensures.size
    ∙ sym (queued_whole (lines_of piece) (lines_in more) left (omega arith))
    ∙ ap (λ xs. queued (lines_in xs) left) (sym whole)
    ∙ c.loop-piece.invariant.3 in
    rw c.in-Some.ensures.items ((subst ArePieces whole c.loop-piece.invariant.0).1, omega arith, omega arith, taken, c.loop-piece.invariant.4)
