use Rattle.std.proofs.Common.{◌≡◌, ◌≤◌, length}
use Rattle.aprs_body.specs.Bodies.{without_trailing_blanks}
use Rattle.aprs_body.proofs.forms.without_trailing_blanks.Given as goal

abbrev pub invariant-loop-rest : goal.invariant-loop-rest
invariant-loop-rest l = (without_trailing_blanks l.rest ≡ without_trailing_blanks l.text) × (length l.rest ≤ length l.text)

abbrev pub decreases-loop-rest : goal.decreases-loop-rest
decreases-loop-rest l = length l.rest
