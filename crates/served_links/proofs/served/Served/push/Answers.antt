use Rattle.std.proofs.Common.{◌≡◌, ◌<◌, ℕ, [], ◌∷◌, ◌++◌, ap, arith, refl, subst, sym, ◌∙◌}
use Rattle.std.specs.Arc.{arc_value}
use Rattle.aprs_history.specs.Links.{Opening}
use Rattle.aprs_history.specs.Stands.{LinkSeen}
use Rattle.worker_match.specs.Feeds.{FeedsSeen, new_feed}
use Rattle.worker_match.specs.Seen.{FeedSeen}
use Rattle.served_links.specs.Fed.{new_half}
use Rattle.served_links.specs.Links.{Rises, is_whole, numbers}
use Rattle.served_links.specs.Halves.{served_seen}
use Rattle.served_links.proofs.HereLemmas.{whole_push}
use Rattle.served_links.specs.Changes.{new_link_seen}
use Rattle.served_links.proofs.ServedSteps.{links_of, more_are, more_links, more_put, numbers_here, opened_matches, seen_changed, waiting_of, swept_same}
use Rattle.served_links.proofs.served.Served.push.Goals as goal

abbrev opening : goal.In-Ok → Opening
opening c = record { kind = c.args.kind; from = c.args.from; moment = c.args.moment }

abbrev half : goal.In-Ok → LinkSeen
half c = new_half c.args.number (opening c)

abbrev fed : goal.In-Ok → FeedSeen
fed c = new_feed c.args.number c.feed_of-feed.result c.is_inbound.result (arc_value c.in_ok-first.first)

pub make_way-put-requires-clause-settled : goal.make_way-put-requires-clause-settled
make_way-put-requires-clause-settled c = ap waiting_of c.self.view_is ∙ c.requires.settled

pub make_way-put-requires-clause-halves : goal.make_way-put-requires-clause-halves
make_way-put-requires-clause-halves c = c.self.invariant.0

pub open-requires-2 : goal.open-requires-2
open-requires-2 c = c.make_way-put.ensures.swept.settled

view : (c : goal.In-Ok) → served_seen c.make_way-put.new.sessions c.make_way-put.new.feeds c.saturating_add-self-inside.result c.self.inside.rests ≡ c.args.self.now
view c =
    swept_same c.self.inside.sessions c.make_way-put.new.sessions c.self.inside.feeds c.make_way-put.new.feeds c.make_way-put.result c.self.inside.queued c.saturating_add-self-inside.result c.self.inside.rests
    c.make_way-put.ensures.swept.links c.make_way-put.ensures.swept.put c.saturating_add-self-inside.ensures (c.make_way-put.ensures.swept.settled ∙ sym (ap waiting_of c.self.view_is ∙ c.requires.settled))
    ∙ c.self.view_is

last : (c : goal.In-Ok) → (last : ℕ) × Rises 0 (numbers c.make_way-put.new.sessions) last × (last < c.args.number)
last c =
    let hs = c.self.inside.sessions in
    c.make_way-put.ensures.below c.requires.rises.0
    (subst (λ ns. Rises 0 ns c.requires.rises.0) (sym (ap numbers (ap links_of c.self.view_is)) ∙ numbers_here hs c.self.inside.feeds.links c.self.invariant.0.match) c.requires.rises.1) c.requires.rises.2

pub invariant_of-self-in-Ok : goal.invariant_of-self-in-Ok
invariant_of-self-in-Ok c = (
  more_are c.make_way-put.new.sessions c.open.new.self c.make_way-put.new.feeds c.open-2.new.self (half c) (fed c) (last c).0 c.make_way-put.ensures.swept.halves
      (opened_matches c.args.number (opening c) c.feed_of-feed.result c.is_inbound.result (arc_value c.in_ok-first.first) c.feed_of-feed.ensures c.is_inbound.ensures)
      (last c).1 (last c).2 (let small = c.ranges.number.fits in omega (arith, small)) c.in_ok-open.ensures.ok c.in-Ok.ensures.ok,
  (
    λ rests. ap (λ (f : FeedsSeen). f.waiting) c.in-Ok.ensures.ok ∙ c.make_way-put.ensures.swept.settled,
    λ rests. ap is_whole c.in_ok-open.ensures.ok ∙ whole_push c.make_way-put.new.sessions (half c) refl (c.make_way-put.ensures.swept.whole (c.self.invariant.1.1 rests)),
  ),
)

pub returns-in-Ok-clause-ok : goal.returns-in-Ok-clause-ok
returns-in-Ok-clause-ok c =
    seen_changed c.make_way-put.new.sessions c.open.new.self c.make_way-put.new.feeds c.open-2.new.self c.saturating_add-self-inside.result c.self.inside.rests c.args.self.now
    (c.args.self.now.links ++ new_link_seen c.args.number (opening c) c.args.first ∷ []) (view c)
    (more_links c.make_way-put.new.sessions c.open.new.self c.args.self.now.links c.make_way-put.new.feeds c.open-2.new.self (half c) (new_link_seen c.args.number (opening c) c.args.first) (fed c) c.make_way-put.ensures.swept.halves
    c.in_ok-open.ensures.ok c.in-Ok.ensures.ok refl (ap (new_link_seen c.args.number (opening c)) c.in_ok-first.ensures.ok) (ap links_of (view c)))
    (more_put c.make_way-put.new.feeds c.open-2.new.self (fed c) refl c.in-Ok.ensures.ok)
    (ap (λ (f : FeedsSeen). f.waiting) c.in-Ok.ensures.ok)
