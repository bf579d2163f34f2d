use Rattle.worker_match.proofs.OfferLemmas.{offered_all, offered_more}
use Rattle.worker_match.proofs.offers.offers_in.Goals as goal

pub loop-item-preserved : goal.loop-item-preserved
loop-item-preserved c =
    offered_more c.args.items.now c.loop-item.item-index c.item-item.result c.loop-item.offers.items c.push.new.self.items c.in-Some.offer c.loop-item-test.true c.item-item.is
    c.in-Some.ensures.is c.in_ok-push.ensures.items c.loop-item.invariant

pub returns : goal.returns
returns c = offered_all c.args.items.now c.loop-item.item-index c.loop-item.offers.items c.loop-item-test.false c.loop-item.invariant
