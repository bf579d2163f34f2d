use Rattle.std.proofs.Common.{◌≡◌, length}
use Rattle.aprs_position.specs.Marks.{mark_in}
use Rattle.aprs_position.proofs.marks.find_mark.Given as goal

-- the leftmost mark is in what is left
abbrev pub invariant-loop-rest : goal.invariant-loop-rest
invariant-loop-rest l = mark_in l.rest ≡ mark_in l.text

abbrev pub decreases-loop-rest : goal.decreases-loop-rest
decreases-loop-rest l = length l.rest
