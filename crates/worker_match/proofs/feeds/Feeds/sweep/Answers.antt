use Rattle.std.proofs.Common.{filter}
use Rattle.worker_match.specs.Items.{items_seen}
use Rattle.worker_match.specs.Feeds.{is_served}
use Rattle.worker_match.proofs.FeedLemmas.{written}
use Rattle.worker_match.proofs.feeds.Feeds.sweep.Goals as goal

pub returns : goal.returns
returns c =
    written (items_seen c.self.inside.items.items) c.self.inside.states.items c.args.self.now c.self.view_is c.requires (filter is_served) c.sweep.new.states.items c.sweep.ensures
