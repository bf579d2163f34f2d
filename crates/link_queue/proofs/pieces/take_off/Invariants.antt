use Rattle.std.proofs.Common.{◌≡◌, ◌≤◌, length}
use Rattle.link_queue.specs.Lines.{queued}
use Rattle.link_queue.specs.Pieces.{ArePieces, lines_in}
use Rattle.link_queue.proofs.pieces.take_off.Given as goal

-- what is left to take off the pieces that are left
abbrev pub invariant-loop-piece : goal.invariant-loop-piece
invariant-loop-piece l =
    ArePieces l.ring.items
    × (l.lines ≡ length (lines_in l.ring.items))
    × (length l.ring.items ≤ l.ring.capacity)
    × (queued (lines_in l.ring.items) l.left ≡ queued (lines_in l.initial.ring.items) l.initial.left)
    × (l.ring.capacity ≡ l.initial.ring.capacity)

abbrev pub decreases-loop-piece : goal.decreases-loop-piece
decreases-loop-piece l = length l.ring.items
