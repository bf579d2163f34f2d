use Rattle.std.proofs.Common.{◌≡◌, ◌∙◌, ◌+◌, ap, arith, refl, rules}
use Rattle.mio_wire.specs.Dialled.{Answered}
use Rattle.mio_wire.specs.Seen.{seen_of}
use Rattle.mio_wire.proofs.StepLemmas.{joins, numbers_more, unjoins}
use Rattle.mio_wire.proofs.sockets.Sockets.join.Goals as goal

pub returns-in_default-clause-step : goal.returns-in_default-clause-step
returns-in_default-clause-step c = unjoins (seen_of c.args.self.now c.args.links.now c.args.dials.now) c.give_up.result c.give_up.new.self.list.items c.give_up.ensures.answered

pub returns-in_default-taken_over-clause-step : goal.returns-in_default-taken_over-clause-step
returns-in_default-taken_over-clause-step c =
    let answered : Answered c.take-dial.result.uplink c.args.dials.now.list.items c.take-dial.new.self.list.items = record { place = c.args.place; dial = c.take-dial.result; there = c.take-dial.ensures.dial; named = refl; others = c.take-dial.ensures.others } in
    rw (c.make_room.ensures.same.0, c.make_room.ensures.same.1) (unjoins (seen_of c.args.self.now c.args.links.now c.args.dials.now) c.take-dial.result.uplink c.take-dial.new.self.list.items answered)

pub returns-clause-step : goal.returns-clause-step
returns-clause-step c =
    let answered : Answered c.take-dial.result.uplink c.args.dials.now.list.items c.take-dial.new.self.list.items = record { place = c.args.place; dial = c.take-dial.result; there = c.take-dial.ensures.dial; named = refl; others = c.take-dial.ensures.others } in
    let next : c.in-Some.number ≡ c.args.links.now.made + 1 = search rules in
    let made : c.make_room.new.self.made ≡ c.args.links.now.made = c.make_room.ensures.same.1 in
    joins (seen_of c.args.self.now c.args.links.now c.args.dials.now) (seen_of c.args.self.now c.add.new.self c.take-dial.new.self) c.take-dial.result.uplink c.in-Some.number c.take-dial.result.at
    next (c.in_ok-add.ensures.ok ∙ ap (λ n. n + 1) made) (numbers_more c.args.links.now.list.items c.make_room.new.self.list.items c.add.new.self.list.items _ c.in-Some.number c.make_room.ensures.same.0 c.in_ok-add.ensures.link (omega arith)) answered refl refl refl
