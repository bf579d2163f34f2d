use Rattle.worker_match.specs.Items.{items_seen}
use Rattle.worker_match.specs.Walk.{walked}
use Rattle.worker_match.proofs.WalkLemmas.{mapped_more}
use Rattle.worker_match.proofs.workers.walk_items.Goals as goal

pub loop-link-preserved : goal.loop-link-preserved
loop-link-preserved c =
    mapped_more (walked (items_seen c.args.items.now)) c.args.links.now c.loop-link.links c.loop-link.link-index c.walk_link.new.link c.link-item.result
    c.loop-link-test.true c.loop-link.invariant c.in_ok-walk_link.ensures
