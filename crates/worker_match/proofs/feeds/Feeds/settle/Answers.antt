use Rattle.std.proofs.Common.{ap, length, sym, ◌∙◌}
use Rattle.worker_match.specs.Items.{items_seen}
use Rattle.worker_match.proofs.FeedLemmas.{matched_all}
use Rattle.worker_match.proofs.feeds.Feeds.settle.Goals as goal

pub returns-clause-ok : goal.returns-clause-ok
returns-clause-ok g c =
    matched_all (items_seen c.self.inside.items.items) c.self.inside.states.items c.args.self.now c.self.view_is c.self.inside.states.len c.spread.new.links c.as_mut_slice.result.now
    (items_seen c.as_slice.result.now) (items_seen c.clear.new.self.items) (ap items_seen c.as_slice.ensures.value) c.as_mut_slice.ensures.value
    (sym c.as_mut_slice.ensures.len ∙ ap length c.as_mut_slice.ensures.value) c.in_ok-spread.ensures (ap items_seen c.clear.ensures.items)
