use Rattle.std.proofs.Common.{◌≡◌, drop}
use Rattle.net_history.specs.Steps.{peering}
use Rattle.net_schedule.proofs.joins.peering.Given as goal

abbrev pub invariant-loop-pair : goal.invariant-loop-pair
invariant-loop-pair l = peering l.from l.to (drop l.pair-index l.peers) ≡ peering l.from l.to l.peers
