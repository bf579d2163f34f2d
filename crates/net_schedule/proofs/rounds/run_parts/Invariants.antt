use Rattle.std.proofs.Common.{List, ℕ, length}
use Rattle.net_history.specs.Network.{End, NetSeen}
use Rattle.net_history.specs.Serving.{with_all}
use Rattle.net_schedule.specs.Standing.{Turns}
use Rattle.net_schedule.specs.Waiting.{EndsByTick, Ready, Runs}
use Rattle.net_schedule.proofs.rounds.run_parts.Given as goal

abbrev pub invariant-loop-rest : goal.invariant-loop-rest
invariant-loop-rest g l =
    EndsByTick l.rest
    × ((brought : End → List ℕ) (n : NetSeen) → Turns l.number l.events brought l.initial.servers l.initial.ways n → Ready l.number l.events n
    → Runs l.number brought (with_all l.number l.events n) l.rest l.servers l.ways)

abbrev pub decreases-loop-rest : goal.decreases-loop-rest
decreases-loop-rest g l = length l.rest
