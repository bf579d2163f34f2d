use Rattle.std.specs.Arc.{arc_value}
use Rattle.worker_match.specs.Items.{items_seen}
use Rattle.worker_match.specs.Seen.{FeedSeen}
use Rattle.worker_match.specs.Feeds.{told, with_terms}
use Rattle.worker_match.proofs.FeedLemmas.{changed_there}
use Rattle.worker_match.proofs.feeds.Feeds.set_filter.Goals as goal

pub returns : goal.returns
returns c link there =
    changed_there (items_seen c.self.inside.items.items) c.self.inside.states.items c.args.self.now c.self.view_is c.requires.settled
    (λ (l : FeedSeen). told (arc_value c.args.reply) (with_terms (arc_value c.args.filter) c.args.friends l))
    c.args.place link c.index_mut.result.now c.set_filter.new.state there c.index_mut.ensures.value c.set_filter.ensures
