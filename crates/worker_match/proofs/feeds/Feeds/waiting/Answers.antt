use Rattle.std.proofs.Common.{ap, sym, ◌∙◌}
use Rattle.std.proofs.lemmas.List.{length-map}
use Rattle.worker_match.specs.Items.{item_seen}
use Rattle.worker_match.specs.Feeds.{FeedsSeen}
use Rattle.worker_match.proofs.feeds.Feeds.waiting.Goals as goal

pub returns : goal.returns
returns c = c.len.ensures ∙ c.self.inside.items.ok.0 ∙ sym (length-map c.self.inside.items.items item_seen) ∙ ap (λ (feeds : FeedsSeen). feeds.waiting) c.self.view_is
