use Rattle.std.proofs.Common.{◌≡◌, ◌++◌}
use Rattle.std.specs.Vec.Iter.{into_iter_items}
use Rattle.parsed_lines.specs.Pieces.{joined}
use Rattle.parsed_lines.proofs.parsing.join.Given as goal

abbrev pub invariant-loop-piece : goal.invariant-loop-piece
invariant-loop-piece l = (goal.iterator-loop-piece).can_next l.piece-iterator
    × (goal.iterator-loop-piece).is_finite l.piece-iterator
    × (l.yielded ++ into_iter_items l.piece-iterator ≡ into_iter_items l.initial.piece-iterator)
    × (l.parsed.items ≡ joined l.yielded)
