use Rattle.std.proofs.Common.{ap, ◌∙◌}
use Rattle.worker_match.specs.Feeds.{put_of}
use Rattle.worker_match.proofs.FeedLemmas.{put_more}
use Rattle.worker_match.proofs.states.put_by.Goals as goal

pub loop-state-preserved : goal.loop-state-preserved
loop-state-preserved c =
    put_more c.args.states.now c.loop-state.state-index c.state-item.result c.loop-state.sum c.state.inside.put c.saturating_add-sum.result c.loop-state-test.true c.loop-state.invariant
    (ap put_of (c.state.view_is ∙ c.state-item.is)) c.saturating_add-sum.ensures
