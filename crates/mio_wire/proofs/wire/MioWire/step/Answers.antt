use Rattle.std.proofs.Common.{◌≡◌, ◌∙◌, ap, length}
use Rattle.mio_wire.specs.Held.{unread}
use Rattle.mio_wire.specs.Seen.{seen}
use Rattle.mio_wire.specs.declared.wire.MioWire.{MioWire}
use Rattle.mio_wire.proofs.NextLemmas.{arrived_gives_all, arrived_moves, served_none, tick_gives_all}
use Rattle.mio_wire.proofs.StepLemmas.{same_seen, ticks_at}
use Rattle.mio_wire.proofs.wire.MioWire.step.Goals as goal

pub returns-then-has_arrived-clause-gives : goal.returns-then-has_arrived-clause-gives
returns-then-has_arrived-clause-gives g c =
    let undue = c.in_default.ensures.none in
    let start = c.args.self.now in
    arrived_gives_all start.course start.dials.list.items (unread start.sockets) c.arrived.result undue.0 c.arrived.ensures.arrival (rw undue.1 at c.arrived.ensures.bytes)

pub returns-then-has_arrived-clause-moves : goal.returns-then-has_arrived-clause-moves
returns-then-has_arrived-clause-moves g c = arrived_moves c.args.self.now.course.second c.arrived.new.self.sockets c.arrived.result c.arrived.ensures.arrival

pub returns-clause-step : goal.returns-clause-step
returns-clause-step g c =
    let kept = c.rest.ensures.kept in
    let same = same_seen c.due.new.self c.rest.new.self (ap (λ (w : MioWire _ _ _). w.links) kept) (ap (λ (w : MioWire _ _ _). w.dials) kept) c.rest.ensures.holding in
    rw c.whole-2.ensures (ticks_at c.due.new.self.course (seen c.args.self.now) (seen c.rest.new.self) c.rest.result (same ∙ ap seen c.in_default.ensures.none.1) c.rest.ensures.ticks)

pub returns-clause-gives : goal.returns-clause-gives
returns-clause-gives g c =
    let undue = c.in_default.ensures.none in
    let start = c.args.self.now in
    let empty : length (unread c.due.new.self.sockets).left ≡ 0 = served_none c.due.new.self.sockets (c.has_arrived.ensures c.if-has_arrived.false) in
    rw c.whole-2.ensures (tick_gives_all start.course start.dials.list.items (unread start.sockets) c.rest.result undue.0 (rw undue.1 at empty) (rw undue.1 at c.rest.ensures.ticks))

pub returns-then-is_to_ask-clause-step : goal.returns-then-is_to_ask-clause-step
returns-then-is_to_ask-clause-step g c =
    let kept = c.ask_again.ensures.kept in
    let same = same_seen c.due.new.self c.ask_again.new.self (ap (λ (w : MioWire _ _ _). w.links) kept) (ap (λ (w : MioWire _ _ _). w.dials) kept) c.ask_again.ensures.holding in
    rw c.whole.ensures (ticks_at c.due.new.self.course (seen c.args.self.now) (seen c.ask_again.new.self) c.ask_again.result (same ∙ ap seen c.in_default.ensures.none.1) c.ask_again.ensures.ticks)

pub returns-then-is_to_ask-clause-gives : goal.returns-then-is_to_ask-clause-gives
returns-then-is_to_ask-clause-gives g c =
    let undue = c.in_default.ensures.none in
    let start = c.args.self.now in
    let empty : length (unread c.due.new.self.sockets).left ≡ 0 = c.is_to_ask.ensures c.if-is_to_ask.true in
    rw c.whole.ensures (tick_gives_all start.course start.dials.list.items (unread start.sockets) c.ask_again.result undue.0 (rw undue.1 at empty) (rw undue.1 at c.ask_again.ensures.ticks))
