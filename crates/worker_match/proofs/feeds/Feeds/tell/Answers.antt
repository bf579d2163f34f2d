use Rattle.std.specs.Arc.{arc_value}
use Rattle.worker_match.specs.Items.{items_seen}
use Rattle.worker_match.specs.Feeds.{told}
use Rattle.worker_match.proofs.FeedLemmas.{changed_there}
use Rattle.worker_match.proofs.feeds.Feeds.tell.Goals as goal

pub returns : goal.returns
returns c link there =
    changed_there (items_seen c.self.inside.items.items) c.self.inside.states.items c.args.self.now c.self.view_is c.requires.settled (told (arc_value c.args.line))
    c.args.place link c.index_mut.result.now c.tell.new.self there c.index_mut.ensures.value c.tell.ensures
