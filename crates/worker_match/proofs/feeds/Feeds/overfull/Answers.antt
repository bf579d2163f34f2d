use Rattle.std.proofs.Common.{◌≡◌, List, filter, map, sym, subst, ◌∙◌, IfOk}
use Rattle.worker_match.specs.Items.{items_seen}
use Rattle.worker_match.specs.Seen.{FeedSeen}
use Rattle.worker_match.specs.Feeds.{is_over, link_of}
use Rattle.worker_match.proofs.FeedLemmas.{seen_standing}
use Rattle.worker_match.proofs.feeds.Feeds.overfull.Goals as goal

pub returns : goal.returns
returns c =
    let states = c.self.inside.states.items in
    let here = seen_standing (items_seen c.self.inside.items.items) states c.args.self.now c.self.view_is c.requires in
    subst (λ (links : List FeedSeen). IfOk c.overfull.result (λ numbers. numbers.items ≡ map link_of (filter is_over links))) (c.as_slice.ensures.value ∙ sym here) c.overfull.ensures
