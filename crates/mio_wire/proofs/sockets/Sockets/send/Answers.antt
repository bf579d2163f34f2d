use Rattle.std.proofs.Common.{◌≡◌, take, sym, subst, ◌∙◌}
use Rattle.std.specs.Io.KnownBytes.{Appends}
use Rattle.mio_wire.specs.Linked.{TakesBytes, at_place, numbers}
use Rattle.mio_wire.proofs.HeldLemmas.{held_forgotten, held_without}
use Rattle.mio_wire.proofs.LinkLemmas.{dropped_none, same_place}
use Rattle.mio_wire.proofs.sockets.Sockets.send.Goals as goal

pub returns-in_default-clause-numbers : goal.returns-in_default-clause-numbers
returns-in_default-clause-numbers g c = sym (dropped_none c.args.number (numbers c.args.links.now.list.items) c.in_default.ensures.none)

pub returns-in_default-write-clause-others : goal.returns-in_default-write-clause-others
returns-in_default-write-clause-others g c = c.let_go.ensures.others ∙ c.write.ensures.others c.args.number c.in-Some.ensures.number

pub returns-in_default-write-clause-held : goal.returns-in_default-write-clause-held
returns-in_default-write-clause-held g c = λ held.
    rw (c.let_go.ensures.kept, c.let_go.ensures.numbers, c.write.ensures.same.0) (held_without c.args.number c.args.self.now.inbox (numbers c.args.links.now.list.items) held)

pub returns-in_default-clause-held : goal.returns-in_default-clause-held
returns-in_default-clause-held g c = λ held.
    rw c.forget.ensures (held_forgotten c.args.number c.args.self.now.inbox (numbers c.args.links.now.list.items) held)

pub returns-in_default-clause-bytes : goal.returns-in_default-clause-bytes
unfolding TakesBytes
returns-in_default-clause-bytes g c = λ place at. tt

pub returns-in_default-write-clause-bytes : goal.returns-in_default-write-clause-bytes
unfolding TakesBytes
returns-in_default-write-clause-bytes g c = λ place at. tt

pub returns-in_ok-put_off-clause-bytes : goal.returns-in_ok-put_off-clause-bytes
unfolding TakesBytes
returns-in_ok-put_off-clause-bytes g c = λ place at.
    let same : c.in-Some.place ≡ place = same_place c.args.links.now.list.items c.in-Some.place place c.args.number c.args.links.now.rising c.in-Some.ensures.number at in
    subst (λ p. Appends (at_place g.S.Write.contents c.args.links.now.list.items p) (at_place g.S.Write.contents c.write.new.self.list.items p) (take c.in-Some-write.written.taken c.args.bytes.now)) same c.in-Some-write.ensures.bytes

pub returns-else-written-bytes-clause-bytes : goal.returns-else-written-bytes-clause-bytes
unfolding TakesBytes
returns-else-written-bytes-clause-bytes g c = λ place at.
    let same : c.in-Some.place ≡ place = same_place c.args.links.now.list.items c.in-Some.place place c.args.number c.args.links.now.rising c.in-Some.ensures.number at in
    subst (λ p. Appends (at_place g.S.Write.contents c.args.links.now.list.items p) (at_place g.S.Write.contents c.write.new.self.list.items p) (take c.in-Some-write.written.taken c.args.bytes.now)) same c.in-Some-write.ensures.bytes
