use Rattle.std.proofs.Common.{◌≡◌, ◌++◌, drop, map, take}
use Rattle.std.specs.Option.{option_map}
use Rattle.net_schedule.specs.Running.{with_taken}
use Rattle.net_schedule.proofs.ways.take.Given as goal

abbrev pub invariant-loop-way : goal.invariant-loop-way
invariant-loop-way l = l.ways ≡ map (option_map (with_taken l.server l.link l.bytes)) (take l.way-index l.initial.ways) ++ drop l.way-index l.initial.ways
