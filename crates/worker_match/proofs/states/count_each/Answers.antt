use Rattle.worker_match.specs.Feeds.{counted}
use Rattle.worker_match.proofs.WalkLemmas.{mapped_more}
use Rattle.worker_match.proofs.states.count_each.Goals as goal

pub loop-state-preserved : goal.loop-state-preserved
loop-state-preserved c =
    mapped_more counted c.args.states.now c.loop-state.states c.loop-state.state-index c.count.new.state c.state-item.result c.loop-state-test.true c.loop-state.invariant c.count.ensures
