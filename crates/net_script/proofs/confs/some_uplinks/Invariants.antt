use Rattle.std.proofs.Common.{◌≡◌}
use Rattle.std.specs.Prelude.{replicate}
use Rattle.net_script.specs.Layouts.{some_uplink}
use Rattle.net_script.proofs.confs.some_uplinks.Given as goal

-- so many uplinks as were counted
abbrev pub invariant-loop : goal.invariant-loop
invariant-loop l = l.uplinks.items ≡ replicate l.counter some_uplink
