use Rattle.std.proofs.Common.{ap, ◌+◌, ◌∙◌, subst, sym}
use Rattle.std.specs.List.{All}
use Rattle.worker_match.specs.Items.{item_seen, items_seen}
use Rattle.worker_match.specs.Walk.{IsOrdered}
use Rattle.worker_match.specs.Feeds.{FeedsSeen, met_by, seen_after}
use Rattle.worker_match.proofs.FeedLemmas.{brought, more_ordered}
use Rattle.worker_match.proofs.feeds.Feeds.bring.Goals as goal

pub invariant_of-self-2 : goal.invariant_of-self-2
invariant_of-self-2 c =
    subst (λ items. All IsOrdered (items_seen items)) (sym c.in_ok-push.ensures.items) (more_ordered c.self.inside.items.items c.args.item c.self.invariant c.requires)

pub returns-clause-ok : goal.returns-clause-ok
returns-clause-ok c =
    ap (λ items. seen_after c.self.inside.states.items (items_seen items)) c.in_ok-push.ensures.items
    ∙ brought c.self.inside.items.items c.args.item c.self.inside.states.items
    ∙ ap (λ (feeds : FeedsSeen). record { links = met_by (item_seen c.args.item) feeds.links; waiting = feeds.waiting + 1 }) c.self.view_is
