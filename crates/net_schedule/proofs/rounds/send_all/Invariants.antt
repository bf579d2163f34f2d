use Rattle.std.proofs.Common.{◌≡◌, List, drop, length}
use Rattle.aprs_base.specs.declared.events.Event.{Event}
use Rattle.aprs_history.specs.Trace.{Trace}
use Rattle.server_core.specs.LinkSteps.{numbers}
use Rattle.net_history.specs.Network.{ServerSeen}
use Rattle.net_schedule.specs.Rounds.{LeftSame, Sends}
use Rattle.net_schedule.specs.Standing.{Keeps}
use Rattle.net_schedule.proofs.rounds.send_all.Given as goal

abbrev pub invariant-loop-link : goal.invariant-loop-link
invariant-loop-link l =
    (numbers l.server.core.seen.links ≡ numbers l.initial.server.core.seen.links)
    × (length l.buffer ≡ 65536)
    × ((s : ServerSeen) (rest : List Event) (round : Trace) → Keeps rest l.initial.server s → LeftSame round l.offers s → Sends l.number rest round l.offers (drop l.link-index l.offers) s l.server l.initial.ways l.ways)
