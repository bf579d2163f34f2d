use Rattle.std.proofs.Common.{map, subst, sym, ap, ◌∙◌, refl}
use Rattle.served_links.specs.Halves.{ServedSeen}
use Rattle.served_links.specs.Links.{numbers}
use Rattle.served_links.specs.Changes.{at_link, when_gone}
use Rattle.server_core.specs.Meaning.{CoreMeaning, Stands}
use Rattle.served_links.proofs.LinkLemmas.{numbers_kept, at_keeps}
use Rattle.server_core.proofs.CoreLemmas.{kept_at}
use Rattle.server_core.proofs.SendLemmas.{stands_gone}
use Rattle.server_core.proofs.server.State.gone.Goals as goal

pub invariant_of-self : goal.invariant_of-self
invariant_of-self c = rw c.lose.ensures (kept_at _ c.args.link when_gone (map (at_link c.args.link when_gone) c.self.inside.links.links) (λ link. refl) refl c.self.invariant)

pub returns-clause-stands : goal.returns-clause-stands
returns-clause-stands c = λ h bytes stands.
    let core : CoreMeaning = record { conf = c.self.inside.conf; seen = record { moment = c.self.inside.moment; links = c.self.inside.links.links; turned = c.self.inside.turned.items; closing = c.self.inside.closing.items; window = c.self.inside.window; stations = c.self.inside.stations; heard = c.self.inside.heard; reach = c.self.inside.reach; greatest = c.self.inside.greatest; downs = c.self.inside.downs; stopped = c.self.inside.stopped; totals = record { accepted = c.self.inside.counts.accepted; duplicate = c.self.inside.counts.duplicate; refused = c.self.inside.counts.refused; queued = c.self.inside.links.queued } }; rests = c.self.inside.links.rests } in
    rw c.lose.ensures (stands_gone core (map (at_link c.args.link when_gone) c.self.inside.links.links) c.args.link bytes h (subst (λ core. Stands core h) (sym c.self.view_is) stands) refl)

pub returns-clause-numbers : goal.returns-clause-numbers
returns-clause-numbers c =
    ap (λ (s : ServedSeen). numbers s.links) c.lose.ensures ∙ numbers_kept (at_link c.args.link when_gone) (at_keeps c.args.link when_gone (λ link. refl)) c.self.inside.links.links
    ∙ ap (λ (core : CoreMeaning). numbers core.seen.links) c.self.view_is
