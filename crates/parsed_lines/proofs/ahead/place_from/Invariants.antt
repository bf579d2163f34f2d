use Rattle.std.specs.Prelude.{⊤}
use Rattle.parsed_lines.proofs.ahead.place_from.Given as goal

abbrev pub invariant-loop-place : goal.invariant-loop-place
invariant-loop-place l = ⊤
