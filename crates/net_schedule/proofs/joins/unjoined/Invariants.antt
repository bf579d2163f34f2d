use Rattle.std.proofs.Common.{◌≡◌, map, take}
use Rattle.net_schedule.specs.Joined.{no_way}
use Rattle.net_schedule.proofs.joins.unjoined.Given as goal

abbrev pub invariant-loop : goal.invariant-loop
invariant-loop l = l.ways.items ≡ map no_way (take l.index l.pairs)
