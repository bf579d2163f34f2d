use Rattle.std.proofs.Common.{map, ◌≤◌, Option, is_some, length, subst, sym, ap, ◌∙◌, refl, if◌then◌else◌}
use Rattle.aprs_history.specs.Downs.{DownSeen}
use Rattle.served_links.specs.Halves.{ServedSeen}
use Rattle.served_links.specs.Links.{down_at, numbers, pending_at}
use Rattle.served_links.specs.Changes.{at_link, with_taken}
use Rattle.server_core.specs.Meaning.{CoreMeaning, Stands}
use Rattle.served_links.proofs.LinkLemmas.{numbers_kept, at_keeps}
use Rattle.server_core.proofs.CoreLemmas.{kept_at}
use Rattle.server_core.proofs.SendLemmas.{stands_lines, stands_took}
use Rattle.server_core.proofs.server.State.took.Goals as goal

pub invariant_of-self : goal.invariant_of-self
invariant_of-self c =
    let step = at_link c.args.link (with_taken c.given_of-given.result c.args.n) in
    rw c.take.ensures (kept_at _ c.args.link (with_taken c.given_of-given.result c.args.n) (map step c.self.inside.links.links) (λ link. refl) refl c.self.invariant)

pub returns-clause-stands : goal.returns-clause-stands
returns-clause-stands c = λ h bytes none size stands.
    let core : CoreMeaning = record { conf = c.self.inside.conf; seen = record { moment = c.self.inside.moment; links = c.self.inside.links.links; turned = c.self.inside.turned.items; closing = c.self.inside.closing.items; window = c.self.inside.window; stations = c.self.inside.stations; heard = c.self.inside.heard; reach = c.self.inside.reach; greatest = c.self.inside.greatest; downs = c.self.inside.downs; stopped = c.self.inside.stopped; totals = record { accepted = c.self.inside.counts.accepted; duplicate = c.self.inside.counts.duplicate; refused = c.self.inside.counts.refused; queued = c.self.inside.links.queued } }; rests = c.self.inside.links.rests } in
    let given = c.given_of-given.ensures
    ∙ ap (λ (down : Option DownSeen). if is_some down then c.args.n else c.args.offered) (c.down.ensures ∙ ap (λ (core : CoreMeaning). down_at c.args.link core.seen.links) c.self.view_is ∙ none) in
    rw c.take.ensures (stands_took core (map (at_link c.args.link (with_taken c.given_of-given.result c.args.n)) c.self.inside.links.links) c.args.link c.args.offered c.args.n bytes h size (subst (λ core. Stands core h) (sym c.self.view_is) stands) c.requires.part
    (subst (λ (core : CoreMeaning). c.args.offered ≤ length (pending_at c.args.link core.seen.links)) (sym c.self.view_is) c.requires.pending)
    (ap (λ m. map (at_link c.args.link (with_taken m c.args.n)) c.self.inside.links.links) given))

pub returns-clause-sends : goal.returns-clause-sends
returns-clause-sends c = λ h down line lines is total stands.
    let core : CoreMeaning = record { conf = c.self.inside.conf; seen = record { moment = c.self.inside.moment; links = c.self.inside.links.links; turned = c.self.inside.turned.items; closing = c.self.inside.closing.items; window = c.self.inside.window; stations = c.self.inside.stations; heard = c.self.inside.heard; reach = c.self.inside.reach; greatest = c.self.inside.greatest; downs = c.self.inside.downs; stopped = c.self.inside.stopped; totals = record { accepted = c.self.inside.counts.accepted; duplicate = c.self.inside.counts.duplicate; refused = c.self.inside.counts.refused; queued = c.self.inside.links.queued } }; rests = c.self.inside.links.rests } in
    let given = c.given_of-given.ensures
    ∙ ap (λ (down : Option DownSeen). if is_some down then c.args.n else c.args.offered) (c.down.ensures ∙ ap (λ (core : CoreMeaning). down_at c.args.link core.seen.links) c.self.view_is ∙ is) in
    rw c.take.ensures (stands_lines core (map (at_link c.args.link (with_taken c.given_of-given.result c.args.n)) c.self.inside.links.links) c.args.link c.args.offered c.args.n line lines h total (subst (λ core. Stands core h) (sym c.self.view_is) stands) c.requires.part
    (subst (λ (core : CoreMeaning). c.args.offered ≤ length (pending_at c.args.link core.seen.links)) (sym c.self.view_is) c.requires.pending)
    (ap (λ m. map (at_link c.args.link (with_taken m c.args.n)) c.self.inside.links.links) given))

pub returns-clause-numbers : goal.returns-clause-numbers
returns-clause-numbers c =
    let step = with_taken c.given_of-given.result c.args.n in
    ap (λ (s : ServedSeen). numbers s.links) c.take.ensures ∙ numbers_kept (at_link c.args.link step) (at_keeps c.args.link step (λ link. refl)) c.self.inside.links.links
    ∙ ap (λ (core : CoreMeaning). numbers core.seen.links) c.self.view_is
