use Rattle.std.proofs.Common.{◌≡◌, refl, ap, sym, ◌∙◌}
use Rattle.mio_wire.specs.Linked.{numbers, without}
use Rattle.mio_wire.proofs.LinkLemmas.{counted_without, numbers-without, removed, rising_without, same_place, without_none, without_twice}
use Rattle.mio_wire.proofs.links.Links.take.Goals as goal

pub invariant_of-self : goal.invariant_of-self
invariant_of-self g c =
    let old = c.args.self.now in
    let kept : c.remove.new.list.items ≡ without c.args.number old.list.items = c.remove.ensures.others ∙ removed c.args.number old.list.items c.in_ok-place.place old.rising c.in_ok-place.ensures.number in
    rw kept (record { rising = rising_without c.args.number old.list.items old.rising; counted = counted_without old.made c.args.number old.list.items old.counted })

pub returns-clause-links : goal.returns-clause-links
returns-clause-links g c = (c.remove.ensures.others ∙ removed c.args.number c.args.self.now.list.items c.in_ok-place.place c.args.self.now.rising c.in_ok-place.ensures.number, refl)

pub returns-clause-numbers : goal.returns-clause-numbers
returns-clause-numbers g c = ap numbers (returns-clause-links g c).0 ∙ numbers-without c.args.number c.args.self.now.list.items

pub returns-clause-others : goal.returns-clause-others
returns-clause-others g c = ap (without c.args.number) (returns-clause-links g c).0 ∙ without_twice c.args.number c.args.self.now.list.items

pub returns-clause-stream : goal.returns-clause-stream
returns-clause-stream g c = λ place at.
    let same : c.in_ok-place.place ≡ place = same_place c.args.self.now.list.items c.in_ok-place.place place c.args.number c.args.self.now.rising c.in_ok-place.ensures.number at in
    rw (← same, c.in_ok-link.ensures.link) refl

pub returns-in_err-place-clause-links : goal.returns-in_err-place-clause-links
returns-in_err-place-clause-links g c = (sym (without_none c.args.number c.args.self.now.list.items c.in_err-place.ensures.none), refl)

pub returns-in_err-place-clause-numbers : goal.returns-in_err-place-clause-numbers
returns-in_err-place-clause-numbers g c = ap numbers (returns-in_err-place-clause-links g c).0 ∙ numbers-without c.args.number c.args.self.now.list.items
