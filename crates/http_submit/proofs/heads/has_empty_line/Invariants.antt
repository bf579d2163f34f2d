use Rattle.std.proofs.Common.{◌≡◌, length}
use Rattle.http_submit.specs.Heads.{has_empty_line}
use Rattle.http_submit.proofs.heads.has_empty_line.Given as goal

-- what is left has an empty line where the whole has one
abbrev pub invariant-loop-rest : goal.invariant-loop-rest
invariant-loop-rest l = has_empty_line l.rest ≡ has_empty_line l.bytes

abbrev pub decreases-loop-rest : goal.decreases-loop-rest
decreases-loop-rest l = length l.rest
