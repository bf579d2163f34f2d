use Rattle.http_submit.specs.Pools.{grown}
use Rattle.http_submit.proofs.PoolLemmas.{mapped_more}
use Rattle.http_submit.proofs.pool.grow_each.Goals as goal

pub loop-one-preserved : goal.loop-one-preserved
loop-one-preserved c =
    mapped_more (grown c.args.link c.args.bytes.now) c.args.waiting.now c.loop-one.waiting c.loop-one.one-index c.grow.new.waiting c.one-item.result
    c.loop-one-test.true c.loop-one.invariant c.grow.ensures
