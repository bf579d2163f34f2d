use Rattle.std.proofs.Common.{◌≡◌, refl, sym, ap, set, ◌∙◌}
use Rattle.mio_wire.specs.Linked.{numbers}
use Rattle.mio_wire.specs.declared.links.Link.{Link}
use Rattle.mio_wire.proofs.LinkLemmas.{number_of, numbers-set, without-set}
use Rattle.mio_wire.proofs.links.Links.note.Goals as goal

pub invariant_of-self : goal.invariant_of-self
invariant_of-self g c =
    let old = c.args.self.now in
    let same : numbers (set old.list.items c.args.place c.note.new.self) ≡ numbers old.list.items =
    numbers-set old.list.items c.args.place c.note.new.self c.index_mut.result.now ((ap (λ (l : Link _). l.number) c.note.ensures.noted) ∙ ap (λ (l : Link _). l.number) c.index_mut.ensures.value) in
    rw same (record { rising = old.rising; counted = old.counted })

pub returns-clause-same : goal.returns-clause-same
returns-clause-same g c = (numbers-set c.args.self.now.list.items c.args.place c.note.new.self c.index_mut.result.now ((ap (λ (l : Link _). l.number) c.note.ensures.noted) ∙ ap (λ (l : Link _). l.number) c.index_mut.ensures.value), refl)

pub returns-clause-others : goal.returns-clause-others
returns-clause-others g c = λ number at.
    let old = c.args.self.now.list.items in
    let link = c.index_mut.result.now in
    let is : link.number ≡ number = number_of old c.args.place link number c.requires c.index_mut.ensures.value at in
    without-set number old c.args.place c.note.new.self link c.requires (ap (λ (l : Link _). l.number) (sym c.index_mut.ensures.value) ∙ is) ((ap (λ (l : Link _). l.number) c.note.ensures.noted) ∙ is)
