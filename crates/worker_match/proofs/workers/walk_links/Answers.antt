use Rattle.worker_match.specs.Seen.{came_all}
use Rattle.worker_match.specs.Walk.{walked}
use Rattle.worker_match.proofs.WalkLemmas.{mapped_more}
use Rattle.worker_match.proofs.workers.walk_links.Goals as goal

pub loop-link-preserved : goal.loop-link-preserved
loop-link-preserved c =
    mapped_more (walked (came_all c.args.offers.now)) c.args.links.now c.loop-link.links c.loop-link.link-index c.meet_packets.new.link c.link-item.result
    c.loop-link-test.true c.loop-link.invariant c.in_ok-meet_packets.ensures
