use Rattle.std.proofs.Common.{List, ℕ, map, take}
use Rattle.aprs_base.specs.declared.events.Event.{Event}
use Rattle.aprs_history.specs.Acts.{Closes}
use Rattle.net_history.specs.Network.{End, NetSeen}
use Rattle.net_history.specs.Serving.{with_acts}
use Rattle.net_schedule.specs.Standing.{Turns}
use Rattle.net_schedule.proofs.rounds.close_all.Given as goal

abbrev pub invariant-loop-link : goal.invariant-loop-link
invariant-loop-link l =
    (rest : List Event) (brought : End → List ℕ) (n : NetSeen) → Turns l.number rest brought l.initial.servers l.initial.ways n
    → Turns l.number rest brought l.servers l.ways (with_acts l.number (map Closes (take l.link-index l.closes)) n)
