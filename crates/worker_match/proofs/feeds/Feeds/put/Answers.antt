use Rattle.std.proofs.Common.{ap, sym, ◌∙◌}
use Rattle.worker_match.specs.Items.{items_seen}
use Rattle.worker_match.specs.Feeds.{put_in}
use Rattle.worker_match.proofs.FeedLemmas.{seen_standing}
use Rattle.worker_match.proofs.feeds.Feeds.put.Goals as goal

pub returns : goal.returns
returns c =
    c.put_by.ensures ∙ ap put_in (c.as_slice.ensures.value ∙ sym (seen_standing (items_seen c.self.inside.items.items) c.self.inside.states.items c.args.self.now c.self.view_is c.requires))
