use Rattle.std.proofs.Common.{◌≡◌, All, length, map}
use Rattle.worker_match.specs.Items.{items_seen}
use Rattle.worker_match.specs.Walk.{IsOrdered, walked}
use Rattle.worker_match.proofs.workers.walk.Given as goal

-- what is left leaves of the links what all items leave of them
abbrev pub invariant-loop-rest : goal.invariant-loop-rest
invariant-loop-rest l = record {
  so_far : map (walked (items_seen l.rest)) l.links ≡ map (walked (items_seen l.items)) l.initial.links;
  ordered : All IsOrdered (items_seen l.rest);
}

abbrev pub decreases-loop-rest : goal.decreases-loop-rest
decreases-loop-rest l = length l.rest
