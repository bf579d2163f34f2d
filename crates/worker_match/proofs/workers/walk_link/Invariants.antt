use Rattle.std.proofs.Common.{◌≡◌, drop}
use Rattle.worker_match.specs.Items.{items_seen}
use Rattle.worker_match.specs.Walk.{walked}
use Rattle.worker_match.proofs.workers.walk_link.Given as goal

abbrev pub invariant-loop-item : goal.invariant-loop-item
invariant-loop-item l = walked (items_seen (drop l.item-index l.items)) l.link ≡ walked (items_seen l.items) l.initial.link
