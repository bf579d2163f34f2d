use Rattle.std.proofs.Common.{ap, length, map, sym, ◌∙◌}
use Rattle.worker_match.specs.Items.{items_seen}
use Rattle.worker_match.specs.Feeds.{forgotten}
use Rattle.worker_match.proofs.FeedLemmas.{all_changed}
use Rattle.worker_match.proofs.feeds.Feeds.forget.Goals as goal

pub returns : goal.returns
returns c =
    all_changed (items_seen c.self.inside.items.items) c.self.inside.states.items c.args.self.now c.self.view_is c.requires (map (forgotten c.args.now))
    c.self.inside.states.len c.forget_each.new.states c.as_mut_slice.result.now
    (c.forget_each.ensures.many ∙ ap length c.as_mut_slice.ensures.value) (sym c.as_mut_slice.ensures.len ∙ ap length c.as_mut_slice.ensures.value)
    c.as_mut_slice.ensures.value c.forget_each.ensures.forgotten
