use Rattle.std.proofs.Common.{ap, refl, ◌∙◌, List}
use Rattle.std.specs.Arc.{arc_value}
use Rattle.std.specs.List.{position}
use Rattle.worker_match.specs.Feeds.{with_terms}
use Rattle.aprs_history.specs.Stands.{LinkSeen, friends_kept}
use Rattle.served_links.specs.Links.{has_that}
use Rattle.served_links.specs.Changes.{with_filter}
use Rattle.served_links.proofs.HereLemmas.{named_text}
use Rattle.served_links.proofs.ServedSteps.{changed_nobody, filter_matches, links_of, waiting_of, told_are, told_seen, within_feeds, within_halves}
use Rattle.served_links.proofs.served.Served.put_filter.Goals as goal

pub set_filter-requires-clause-settled : goal.set_filter-requires-clause-settled
set_filter-requires-clause-settled c = ap waiting_of c.self.view_is ∙ c.requires.settled

pub set_filter-requires-clause-within : goal.set_filter-requires-clause-within
set_filter-requires-clause-within c =
    let hs = c.self.inside.sessions in
    within_feeds c.in-Some.place hs c.self.inside.feeds c.self.invariant.0 (within_halves c.args.number c.in-Some.place hs c.as_slice.result.now c.as_slice.ensures.value c.in-Some.ensures)

pub invariant_of-self : goal.invariant_of-self
invariant_of-self c =
    told_are c.args.number c.self.inside.sessions c.as_slice.result.now c.self.inside.feeds c.set_filter.new.self c.self.invariant.0 c.in-Some.place c.as_slice.ensures.value c.in-Some.ensures
    (with_terms (arc_value c.args.filter) c.args.friends) (arc_value c.args.reply) (λ h s m. filter_matches h s (arc_value c.args.filter) c.args.friends m c.requires.many) c.set_filter.ensures c.self.invariant.1

pub returns-in-Some : goal.returns-in-Some
returns-in-Some c =
    told_seen c.args.number c.self.inside.sessions c.as_slice.result.now c.self.inside.feeds c.set_filter.new.self c.self.invariant.0 c.in-Some.place c.as_slice.ensures.value c.in-Some.ensures
    (with_terms (arc_value c.args.filter) c.args.friends) (arc_value c.args.reply) (λ h s m. filter_matches h s (arc_value c.args.filter) c.args.friends m c.requires.many) c.set_filter.ensures (with_filter (arc_value c.args.filter) c.args.friends (arc_value c.args.reply)) (λ link. named_text (arc_value c.args.reply) (record link { filter = arc_value c.args.filter; friends = friends_kept link.over c.args.friends })) (λ h s. refl) (λ s. refl) c.self.inside.queued c.self.inside.rests c.args.self.now c.self.view_is

pub returns-in-None : goal.returns-in-None
returns-in-None c =
    ap (λ (links : List LinkSeen). record c.args.self.now { links = links }) (changed_nobody c.args.number (with_filter (arc_value c.args.filter) c.args.friends (arc_value c.args.reply)) c.self.inside.sessions c.args.self.now.links c.self.inside.feeds c.self.invariant.0
    (c.in-None.ensures ∙ ap (position (has_that c.args.number)) c.as_slice.ensures.value) (ap links_of c.self.view_is) (λ link. named_text (arc_value c.args.reply) (record link { filter = arc_value c.args.filter; friends = friends_kept link.over c.args.friends })))
