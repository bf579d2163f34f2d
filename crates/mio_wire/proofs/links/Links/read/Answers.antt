use Rattle.std.proofs.Common.{◌≡◌, length, refl, sym, ap, set, ◌∙◌}
use Rattle.mio_wire.specs.Linked.{numbers, reading_of}
use Rattle.mio_wire.specs.declared.links.Link.{Link}
use Rattle.mio_wire.proofs.HeldLemmas.{contains_link}
use Rattle.mio_wire.proofs.LinkLemmas.{at_place-is, at_place-set, number_of, numbers-set, without-set}
use Rattle.mio_wire.proofs.ListenLemmas.{some_at}
use Rattle.mio_wire.proofs.links.Links.read.Goals as goal

pub invariant_of-self : goal.invariant_of-self
invariant_of-self g c =
    let old = c.args.self.now in
    let same : numbers (set old.list.items c.args.place c.read.new.self) ≡ numbers old.list.items =
    numbers-set old.list.items c.args.place c.read.new.self c.index_mut.result.now (c.read.ensures.number ∙ ap (λ (l : Link _). l.number) c.index_mut.ensures.value) in
    rw same (record { rising = old.rising; counted = old.counted })

pub returns-clause-same : goal.returns-clause-same
returns-clause-same g c = (numbers-set c.args.self.now.list.items c.args.place c.read.new.self c.index_mut.result.now (c.read.ensures.number ∙ ap (λ (l : Link _). l.number) c.index_mut.ensures.value), refl)

pub returns-clause-link : goal.returns-clause-link
returns-clause-link g c = rw c.read.ensures.link (contains_link c.args.self.now.list.items c.args.place c.index_mut.result.now c.requires c.index_mut.ensures.value)

pub returns-clause-others : goal.returns-clause-others
returns-clause-others g c = λ number at.
    let old = c.args.self.now.list.items in
    let link = c.index_mut.result.now in
    let is : link.number ≡ number = number_of old c.args.place link number c.requires c.index_mut.ensures.value at in
    without-set number old c.args.place c.read.new.self link c.requires (ap (λ (l : Link _). l.number) (sym c.index_mut.ensures.value) ∙ is) (c.read.ensures.number ∙ is)

pub returns-clause-bytes : goal.returns-clause-bytes
returns-clause-bytes g c =
    let old = c.args.self.now.list.items in
    rw (at_place-is g.S.Read.remaining old c.args.place c.index_mut.result.now c.requires c.index_mut.ensures.value, at_place-set g.S.Read.remaining old c.args.place c.read.new.self c.requires) c.read.ensures.bytes

pub returns-clause-reading : goal.returns-clause-reading
returns-clause-reading g c = λ some.
    some_at (λ l. c.read.result ≡ reading_of (length c.read.new.inbox.left) l.closed) c.args.self.now.list.items c.args.place c.index_mut.result.now c.requires c.index_mut.ensures.value (c.read.ensures.reading some)
