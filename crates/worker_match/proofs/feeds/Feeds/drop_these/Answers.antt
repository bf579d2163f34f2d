use Rattle.std.proofs.Common.{filter}
use Rattle.worker_match.specs.Items.{items_seen}
use Rattle.worker_match.specs.Feeds.{is_other}
use Rattle.worker_match.proofs.FeedLemmas.{written}
use Rattle.worker_match.proofs.feeds.Feeds.drop_these.Goals as goal

pub returns : goal.returns
returns c =
    written (items_seen c.self.inside.items.items) c.self.inside.states.items c.args.self.now c.self.view_is c.requires (filter (is_other c.args.numbers.now)) c.drop_each.new.states.items c.drop_each.ensures
