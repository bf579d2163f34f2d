use Rattle.std.proofs.Common.{◌≡◌, ◌++◌, drop, map, take}
use Rattle.worker_match.specs.Items.{items_seen}
use Rattle.worker_match.specs.Walk.{walked}
use Rattle.worker_match.proofs.workers.walk_items.Given as goal

abbrev pub invariant-loop-link : goal.invariant-loop-link
invariant-loop-link l = l.links ≡ map (walked (items_seen l.items)) (take l.link-index l.initial.links) ++ drop l.link-index l.initial.links
