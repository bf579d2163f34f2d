use Rattle.std.proofs.Common.{◌≡◌, ◌+◌, ◌-◌, ◌≤◌, ◌++◌, length, take, drop, min}
use Rattle.link_queue.specs.Lines.{IsWithinFirst, text_bytes}
use Rattle.link_queue.specs.Pieces.{lines_in}
use Rattle.link_queue.proofs.pieces.put_pieces.Given as goal

-- what is written, and what fits of the pieces that are left, make up what is to be written
abbrev pub invariant-loop-piece : goal.invariant-loop-piece
invariant-loop-piece l =
    let left = drop l.skip (text_bytes (lines_in (drop l.piece-index l.pieces))) in
    let whole = drop l.fn.skip (text_bytes (lines_in l.pieces)) in
    let room = length l.fn.out - l.fn.at in
    (l.at ≤ length l.out)
    × IsWithinFirst (lines_in (drop l.piece-index l.pieces)) l.skip
    × (take l.at l.out ++ take (length l.out - l.at) left ≡ take l.fn.at l.fn.out ++ take room whole)
    × (l.at + min (length l.out - l.at) (length left) ≡ l.fn.at + min room (length whole))
    × (drop l.at l.out ≡ drop l.at l.fn.out)
