use Rattle.std.proofs.Common.{◌≤◌, ℕ, ap, length, nat_lt, refl, subst, ◌∙◌, List}
use Rattle.std.specs.List.{position}
use Rattle.worker_match.specs.Feeds as feeds
use Rattle.aprs_history.specs.Stands.{LinkSeen}
use Rattle.served_links.specs.Links.{has_that}
use Rattle.served_links.specs.Changes.{with_taken}
use Rattle.served_links.proofs.ServedSteps.{both_are, both_seen, changed_nobody, half_there, links_of, pending_there, rests_of, taken_matches, within_feeds, within_halves}
use Rattle.served_links.proofs.served.Served.take.Goals as goal

pub taken-requires-clause-settled : goal.taken-requires-clause-settled
taken-requires-clause-settled c = c.self.invariant.1.0 (ap rests_of c.self.view_is ∙ c.requires.rests)

pub taken-requires-clause-within : goal.taken-requires-clause-within
taken-requires-clause-within c =
    let hs = c.self.inside.sessions in
    within_feeds c.in-Some.place hs c.self.inside.feeds c.self.invariant.0 (within_halves c.args.number c.in-Some.place hs c.as_slice.result.now c.as_slice.ensures.value c.in-Some.ensures)

pub take-requires : goal.take-requires
take-requires c = within_halves c.args.number c.in-Some.place c.self.inside.sessions c.as_slice.result.now c.as_slice.ensures.value c.in-Some.ensures

pub taken-requires-clause-there : goal.taken-requires-clause-there
taken-requires-clause-there c s there =
    let hs = c.self.inside.sessions in
    let within = within_halves c.args.number c.in-Some.place hs c.as_slice.result.now c.as_slice.ensures.value c.in-Some.ensures in
    let half = half_there hs c.in-Some.place within in
    subst (λ bytes. c.args.count ≤ length bytes)
    (pending_there c.args.number hs c.self.inside.feeds c.self.invariant.0 c.in-Some.place half.0 s within half.2 there (c.in-Some.ensures ∙ ap (position (has_that c.args.number)) c.as_slice.ensures.value)
    (c.self.invariant.1.1 (ap rests_of c.self.view_is ∙ c.requires.rests)) c.args.self.now.links (ap links_of c.self.view_is))
    c.requires.pending

abbrev blocked : (offered count : ℕ) → LinkSeen → LinkSeen
blocked offered count half = record half { blocked = nat_lt count offered }

pub invariant_of-self : goal.invariant_of-self
invariant_of-self c =
    both_are c.args.number c.self.inside.sessions c.as_slice.result.now c.self.inside.feeds c.taken.new.self c.self.invariant.0 c.in-Some.place c.as_slice.ensures.value
    (within_halves c.args.number c.in-Some.place c.self.inside.sessions c.as_slice.result.now c.as_slice.ensures.value c.in-Some.ensures)
    (blocked c.args.offered c.args.count) c.take.new.self c.take.ensures (λ h. refl)
    (feeds.with_taken c.args.count) (λ h s got m. taken_matches h s (nat_lt c.args.count c.args.offered) c.args.count m) c.taken.ensures
    (λ h. refl) c.self.invariant.1

pub returns-in-Some : goal.returns-in-Some
returns-in-Some c =
    both_seen c.args.number c.self.inside.sessions c.as_slice.result.now c.self.inside.feeds c.taken.new.self c.self.invariant.0 c.in-Some.place c.as_slice.ensures.value
    (within_halves c.args.number c.in-Some.place c.self.inside.sessions c.as_slice.result.now c.as_slice.ensures.value c.in-Some.ensures)
    (blocked c.args.offered c.args.count) c.take.new.self c.take.ensures (λ h. refl)
    (feeds.with_taken c.args.count) (λ h s got m. taken_matches h s (nat_lt c.args.count c.args.offered) c.args.count m) c.taken.ensures
    (with_taken c.args.offered c.args.count) c.in-Some.ensures (λ link. refl) (λ h s got m. refl) (λ h s got m. refl) c.self.inside.queued c.self.inside.rests c.args.self.now c.self.view_is

pub returns-in-None : goal.returns-in-None
returns-in-None c =
    ap (λ (links : List LinkSeen). record c.args.self.now { links = links }) (changed_nobody c.args.number (with_taken c.args.offered c.args.count) c.self.inside.sessions c.args.self.now.links c.self.inside.feeds c.self.invariant.0
    (c.in-None.ensures ∙ ap (position (has_that c.args.number)) c.as_slice.ensures.value) (ap links_of c.self.view_is) (λ link. refl))
