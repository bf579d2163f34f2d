use Rattle.std.proofs.Common.{◌≡◌, ap, refl, ◌∙◌}
use Rattle.worker_match.specs.Feeds.{FeedsSeen, forgotten, put_in}
use Rattle.served_links.specs.Fed.{joined_all}
use Rattle.served_links.specs.Changes.{at_moment}
use Rattle.served_links.proofs.ServedLemmas.{any_half, put_kept, states_changed}
use Rattle.served_links.proofs.ServedSteps.{fed_on, forgotten_matches, forgotten_same, seen_stepped, waiting_of}
use Rattle.served_links.proofs.served.Served.let_fade.Goals as goal

pub forget-requires : goal.forget-requires
forget-requires c = ap waiting_of c.self.view_is ∙ c.requires

pub invariant_of-self : goal.invariant_of-self
invariant_of-self c = (
  fed_on (forgotten c.args.now) (forgotten_matches c.args.now) c.self.inside.sessions c.self.inside.feeds c.forget.new.self c.self.invariant.0 c.forget.ensures,
  (λ rests. ap (λ (f : FeedsSeen). f.waiting) c.forget.ensures ∙ c.self.invariant.1.0 rests, c.self.invariant.1.1),
)

pub returns : goal.returns
returns c =
    let hs = c.self.inside.sessions in
    let ss = c.self.inside.feeds.links in
    seen_stepped hs hs c.self.inside.feeds c.forget.new.self c.self.inside.queued c.self.inside.rests c.args.self.now (at_moment c.args.now) (λ link. refl) c.self.view_is
    (ap (λ (f : FeedsSeen). joined_all hs f.links) c.forget.ensures
    ∙ states_changed (forgotten c.args.now) (λ h. h ≡ h) (at_moment c.args.now) (λ h s same m. forgotten_same c.args.now h s) hs ss (any_half hs) c.self.invariant.0.match)
    (ap (λ (f : FeedsSeen). put_in f.links) c.forget.ensures ∙ put_kept (forgotten c.args.now) (λ h s m. refl) hs ss c.self.invariant.0.match)
    (ap (λ (f : FeedsSeen). f.waiting) c.forget.ensures)
