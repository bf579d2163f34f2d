use Rattle.std.proofs.Common.{◌≡◌, ◌++◌, drop, map, take}
use Rattle.net_schedule.specs.Running.{way_parted_at}
use Rattle.net_schedule.proofs.ways.part.Given as goal

abbrev pub invariant-loop-way : goal.invariant-loop-way
invariant-loop-way l = l.ways ≡ map (way_parted_at l.server l.link) (take l.way-index l.initial.ways) ++ drop l.way-index l.initial.ways
