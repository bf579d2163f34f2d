use Rattle.std.proofs.Common.{◌≡◌, ℕ, Option, Some, ap, refl, slice_get, ◌∙◌, List}
use Rattle.std.specs.List.{position}
use Rattle.std.specs.Option.{option_or}
use Rattle.std.specs.Arc.{arc_value}
use Rattle.aprs_history.specs.declared.verdicts.Session.{Session}
use Rattle.aprs_history.specs.Downs.{DownSeen}
use Rattle.aprs_history.specs.Stands.{LinkSeen, place_kept}
use Rattle.filter_eval.specs.declared.seen.Seen.{Seen}
use Rattle.worker_match.specs.declared.links.Feed.{Feed}
use Rattle.served_links.specs.Fed.{Matches}
use Rattle.served_links.proofs.HereLemmas.{named_text}
use Rattle.worker_match.specs.Feeds.{told, with_login}
use Rattle.worker_match.specs.Seen.{FeedSeen}
use Rattle.served_links.specs.Links.{has_that}
use Rattle.served_links.specs.Changes.{with_session}
use Rattle.served_links.proofs.FedLemmas.{told_matches, told_same, told_uncounted}
use Rattle.served_links.proofs.ServedSteps.{both_are, both_seen, changed_nobody, links_of, login_matches, waiting_of, within_feeds, within_halves}
use Rattle.served_links.proofs.served.Served.begin_session.Goals as goal

pub log_in-requires-in-Some-clause-settled : goal.log_in-requires-in-Some-clause-settled
log_in-requires-in-Some-clause-settled c = ap waiting_of c.self.view_is ∙ c.requires.settled

pub log_in-requires-in-Some-clause-within : goal.log_in-requires-in-Some-clause-within
log_in-requires-in-Some-clause-within c =
    let hs = c.self.inside.sessions in
    within_feeds c.in-Some.place hs c.self.inside.feeds c.self.invariant.0 (within_halves c.args.number c.in-Some.place hs c.as_slice.result.now c.as_slice.ensures.value c.in-Some.ensures)

pub log_in-requires-clause-within : goal.log_in-requires-clause-within
log_in-requires-clause-within c = within_halves c.args.number c.in-Some.place c.self.inside.sessions c.as_slice.result.now c.as_slice.ensures.value c.in-Some.ensures

abbrev begun : Session → Option DownSeen → LinkSeen → LinkSeen
begun session down half = record half { session = Some session; down = option_or down half.down }

-- what the link is fed then, and told
abbrev fed : Feed → List ℕ → Option Seen → List ℕ → FeedSeen → FeedSeen
fed feed call mine reply state = told reply (with_login feed call mine state)

pub invariant_of-self-in-Some : goal.invariant_of-self-in-Some
invariant_of-self-in-Some c =
    both_are c.args.number c.self.inside.sessions c.as_slice.result.now c.self.inside.feeds c.log_in-in-Some.new.self c.self.invariant.0 c.in-Some.place c.as_slice.ensures.value
    (within_halves c.args.number c.in-Some.place c.self.inside.sessions c.as_slice.result.now c.as_slice.ensures.value c.in-Some.ensures)
    (begun c.args.session c.args.down) c.log_in.new.self c.in_ok-feed-in-Some.ensures.session (λ h. refl)
    (fed c.in_ok-feed-in-Some.feed c.copy_call-call.result c.args.mine (arc_value c.args.reply)) (λ h s got m. told_matches (begun c.args.session c.args.down h) s.link (arc_value c.args.reply) (with_login c.in_ok-feed-in-Some.feed c.copy_call-call.result c.args.mine s)
    (login_matches h s c.args.session c.in_ok-feed-in-Some.feed c.copy_call-call.result c.args.mine c.args.down m (c.in_ok-feed-in-Some.ensures.feed h got) c.copy_call-call.ensures)) c.log_in-in-Some.ensures
    (λ h. refl) c.self.invariant.1

pub returns-in_ok-feed-in-Some-clause-ok : goal.returns-in_ok-feed-in-Some-clause-ok
returns-in_ok-feed-in-Some-clause-ok c =
    let reply = arc_value c.args.reply in
    let logged = with_login c.in_ok-feed-in-Some.feed c.copy_call-call.result c.args.mine in
    let match = λ (h : LinkSeen) (s : FeedSeen) (got : slice_get c.self.inside.sessions c.in-Some.place ≡ Some h) (m : Matches h s).
    login_matches h s c.args.session c.in_ok-feed-in-Some.feed c.copy_call-call.result c.args.mine c.args.down m (c.in_ok-feed-in-Some.ensures.feed h got) c.copy_call-call.ensures in
    both_seen c.args.number c.self.inside.sessions c.as_slice.result.now c.self.inside.feeds c.log_in-in-Some.new.self c.self.invariant.0 c.in-Some.place c.as_slice.ensures.value
    (within_halves c.args.number c.in-Some.place c.self.inside.sessions c.as_slice.result.now c.as_slice.ensures.value c.in-Some.ensures)
    (begun c.args.session c.args.down) c.log_in.new.self c.in_ok-feed-in-Some.ensures.session (λ h. refl)
    (fed c.in_ok-feed-in-Some.feed c.copy_call-call.result c.args.mine reply) (λ h s got m. told_matches (begun c.args.session c.args.down h) s.link reply (logged s) (match h s got m)) c.log_in-in-Some.ensures
    (with_session c.args.session c.args.down c.args.mine reply) c.in-Some.ensures (λ link. named_text reply (record link { session = Some c.args.session; down = option_or c.args.down link.down; mine = place_kept link.over c.args.mine }))
    (λ h s got m. told_same (begun c.args.session c.args.down h) (logged s) (match h s got m) reply) (λ h s got m. told_uncounted (begun c.args.session c.args.down h) (logged s) (match h s got m) s.link reply)
    c.self.inside.queued c.self.inside.rests c.args.self.now c.self.view_is

pub returns-in-None-clause-ok : goal.returns-in-None-clause-ok
returns-in-None-clause-ok c =
    let reply = arc_value c.args.reply in
    ap (λ (links : List LinkSeen). record c.args.self.now { links = links }) (changed_nobody c.args.number (with_session c.args.session c.args.down c.args.mine reply) c.self.inside.sessions c.args.self.now.links c.self.inside.feeds c.self.invariant.0
    (c.in-None.ensures ∙ ap (position (has_that c.args.number)) c.as_slice.ensures.value) (ap links_of c.self.view_is)
    (λ link. named_text reply (record link { session = Some c.args.session; down = option_or c.args.down link.down; mine = place_kept link.over c.args.mine })))
