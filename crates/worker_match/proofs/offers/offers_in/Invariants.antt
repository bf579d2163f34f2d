use Rattle.std.proofs.Common.{◌≡◌, ◌++◌, drop}
use Rattle.worker_match.specs.Items.{items_seen}
use Rattle.worker_match.specs.Seen.{came_all}
use Rattle.worker_match.proofs.offers.offers_in.Given as goal

abbrev pub invariant-loop-item : goal.invariant-loop-item
invariant-loop-item l = came_all l.offers.items ++ items_seen (drop l.item-index l.items) ≡ items_seen l.items
