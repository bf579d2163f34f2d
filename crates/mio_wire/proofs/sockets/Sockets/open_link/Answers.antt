use Rattle.std.proofs.Common.{◌≡◌, ◌∙◌, ◌+◌, Some, ap, arith, length, refl, rules}
use Rattle.std.proofs.lemmas.Option.{slice_get-map, slice_get_read}
use Rattle.std.specs.List.{slice_get}
use Rattle.std.specs.Option.{option_map}
use Rattle.mio_wire.specs.Linked.{numbers}
use Rattle.mio_wire.specs.declared.sockets.Ear.{Ear}
use Rattle.mio_wire.specs.declared.sockets.Sockets.{Sockets}
use Rattle.mio_wire.specs.Seen.{seen_of}
use Rattle.mio_wire.proofs.StepLemmas.{keeps, numbers_more, opens, still}
use Rattle.mio_wire.proofs.sockets.Sockets.open_link.Goals as goal

pub returns-in_default-clause-step : goal.returns-in_default-clause-step
returns-in_default-clause-step c = λ dials. still (seen_of c.args.self.now c.args.links.now dials)

pub returns-in_default-get-clause-step : goal.returns-in_default-get-clause-step
returns-in_default-get-clause-step c = λ dials. still (seen_of c.args.self.now c.args.links.now dials)

pub returns-then-ear-ge-MOST_OPENED-clause-step : goal.returns-then-ear-ge-MOST_OPENED-clause-step
returns-then-ear-ge-MOST_OPENED-clause-step c = λ dials. still (seen_of c.args.self.now c.args.links.now dials)

pub returns-in_ok-add-in-Ok-clause-step : goal.returns-in_ok-add-in-Ok-clause-step
returns-in_ok-add-in-Ok-clause-step c = λ dials.
    let next : c.in-Some.number ≡ c.args.links.now.made + 1 = search rules in
    let made : c.make_room.new.self.made ≡ c.args.links.now.made = c.make_room.ensures.same.1 in
    let ears = c.args.self.now.ears.items in
    let got = c.in-Some-get.ensures.lookup in
    let read : slice_get c.deref.result.now c.args.place ≡ Some c.in-Some-get.ear.now = slice_get_read c.deref.result.now (length c.deref.result.now) c.args.place c.in-Some-get.ear.now refl got.3.0 got.1 in
    let ear : slice_get ears c.args.place ≡ Some c.in-Some-get.ear.now = rw c.deref.ensures.value at read in
    let at = slice_get-map (λ (ear : Ear). ear.number) ears c.args.place ∙ ap (option_map (λ (ear : Ear). ear.number)) ear in
    opens (seen_of c.args.self.now c.args.links.now dials) (seen_of c.count_opened.new.self c.add.new.self dials) c.args.place c.in-Some-get.ear.now.number c.in-Some.number c.in-Ok.from
    next (c.in_ok-add-in-Ok.ensures.ok ∙ ap (λ n. n + 1) made) (numbers_more c.args.links.now.list.items c.make_room.new.self.list.items c.add.new.self.list.items _ c.in-Some.number c.make_room.ensures.same.0 c.in_ok-add-in-Ok.ensures.link (omega arith))
    at refl (ap (λ (sockets : Sockets). sockets.inbox) c.count_opened.ensures.kept) c.count_opened.ensures.listening

pub returns-in-Err-clause-step : goal.returns-in-Err-clause-step
returns-in-Err-clause-step c = λ dials.
    keeps (seen_of c.args.self.now c.args.links.now dials) (seen_of c.note_deaf.new.self c.make_room.new.self dials)
    (ap numbers c.make_room.ensures.same.0) c.make_room.ensures.same.1 refl (ap (λ (sockets : Sockets). sockets.inbox) c.note_deaf.ensures.kept) c.note_deaf.ensures.listening
