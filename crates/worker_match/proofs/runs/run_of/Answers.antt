use Rattle.std.proofs.Common.{subst, sym}
use Rattle.std.proofs.lemmas.Result.{IfOk-weaker}
use Rattle.worker_match.specs.Seen.{came_all}
use Rattle.worker_match.specs.Runs.{IsRunOf}
use Rattle.worker_match.proofs.RunLemmas.{IsBegun, all_begun, begun, begun_more}
use Rattle.worker_match.proofs.runs.run_of.Goals as goal

pub loop-offer-init : goal.loop-offer-init
loop-offer-init c = subst (IsBegun c.args.offers.now 0) (sym c.new-draft.ensures) (begun c.args.offers.now)

pub loop-offer-preserved : goal.loop-offer-preserved
loop-offer-preserved c =
    begun_more c.args.offers.now c.loop-offer.offer-index c.offer-item.result c.loop-offer-test.true c.offer-item.is c.loop-offer.draft c.add.new.self
    c.loop-offer.invariant c.in_ok-add.ensures

pub returns : goal.returns
returns c =
    IfOk-weaker c.share.result _ _
    (λ run is. subst (IsRunOf (came_all c.args.offers.now)) (sym is)
    (all_begun c.args.offers.now c.loop-offer.offer-index c.loop-offer.draft c.loop-offer-test.false c.loop-offer.invariant))
    c.share.ensures
