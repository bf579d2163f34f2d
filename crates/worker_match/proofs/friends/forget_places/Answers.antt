use Rattle.std.proofs.Common.{refl}
use Rattle.filter_eval.specs.Passes.{fresh}
use Rattle.worker_match.proofs.WalkLemmas.{mapped_all, mapped_more}
use Rattle.worker_match.proofs.friends.forget_places.Goals as goal

pub loop-place-init : goal.loop-place-init
loop-place-init c = refl

pub loop-place-preserved : goal.loop-place-preserved
loop-place-preserved c =
    mapped_more (fresh c.args.now) c.args.places.now c.loop-place.places c.loop-place.place-index c.still_seen-seen.result c.place-item.result
    c.loop-place-test.true c.loop-place.invariant c.still_seen-seen.ensures

pub returns-clause-fresh : goal.returns-clause-fresh
returns-clause-fresh c = mapped_all (fresh c.args.now) c.args.places.now c.loop-place.places c.loop-place.place-index c.loop-place-test.false c.loop-place.invariant
