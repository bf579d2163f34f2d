use Rattle.std.proofs.Common.{◌∙◌, sym, drop}
use Rattle.worker_match.specs.Seen.{Came, came_all}
use Rattle.worker_match.proofs.WalkLemmas.{closed_stays, ordered_at, walk_more}
use Rattle.worker_match.proofs.workers.walk_offers.Goals as goal

pub returns-then-not-is_open : goal.returns-then-not-is_open
returns-then-not-is_open c =
    sym (closed_stays (came_all (drop c.loop-offer.offer-index c.args.offers.now)) c.loop-offer.link (sym c.is_open.ensures ∙ c.if-not-is_open.true)) ∙ c.loop-offer.invariant

pub meet_packet-requires : goal.meet_packet-requires
meet_packet-requires c = ordered_at Came c.args.offers.now c.loop-offer.offer-index c.offer-item.result c.requires c.loop-offer-test.true c.offer-item.is

pub loop-offer-preserved : goal.loop-offer-preserved
loop-offer-preserved c =
    walk_more Came c.args.offers.now c.loop-offer.offer-index c.offer-item.result c.loop-offer.link c.meet_packet.new.self _ c.loop-offer-test.true c.offer-item.is
    (sym c.is_open.ensures ∙ c.if-not-is_open.false) c.in_ok-meet_packet.ensures.ok c.loop-offer.invariant
