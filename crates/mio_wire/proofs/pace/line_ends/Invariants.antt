use Rattle.std.proofs.Common.{◌≡◌, ◌+◌, ◌≤◌, length}
use Rattle.mio_wire.specs.Pacing.{line_ends}
use Rattle.mio_wire.proofs.pace.line_ends.Given as goal

abbrev pub invariant-loop-place : goal.invariant-loop-place
invariant-loop-place l = (l.ends + length l.rest ≤ length l.bytes) × (l.ends + line_ends l.rest ≡ line_ends l.bytes)

abbrev pub decreases-loop-place : goal.decreases-loop-place
decreases-loop-place l = length l.rest
