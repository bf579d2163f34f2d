use Rattle.worker_match.specs.Items.{items_seen}
use Rattle.worker_match.specs.Feeds.{left}
use Rattle.worker_match.proofs.FeedLemmas.{changed_there}
use Rattle.worker_match.proofs.feeds.Feeds.leave.Goals as goal

pub returns : goal.returns
returns c link there =
    changed_there (items_seen c.self.inside.items.items) c.self.inside.states.items c.args.self.now c.self.view_is c.requires.settled left
    c.args.place link c.index_mut.result.now c.leave.new.state there c.index_mut.ensures.value c.leave.ensures
