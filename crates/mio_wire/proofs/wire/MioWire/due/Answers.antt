use Rattle.std.proofs.Common.{ap, refl}
use Rattle.mio_wire.specs.Seen.{seen}
use Rattle.mio_wire.specs.declared.wire.MioWire.{MioWire}
use Rattle.mio_wire.proofs.StepLemmas.{same_seen, still, stops, ticks, unjoins}
use Rattle.mio_wire.proofs.wire.MioWire.due.Goals as goal

pub returns-in_default-clause-step : goal.returns-in_default-clause-step
returns-in_default-clause-step g c =
    let kept = c.move_on.ensures.kept in
    let same = same_seen c.args.self.now c.move_on.new.self (ap (λ (w : MioWire _ _ _). w.links) kept) (ap (λ (w : MioWire _ _ _). w.dials) kept) c.move_on.ensures.holding in
    rw c.move_on.ensures.event (ticks (seen c.args.self.now) (seen c.move_on.new.self) c.as_secs.result same)

pub returns-then-is_stopped-clause-step : goal.returns-then-is_stopped-clause-step
returns-then-is_stopped-clause-step g c = stops (seen c.args.self.now)

pub returns-then-is_full-clause-step : goal.returns-then-is_full-clause-step
returns-then-is_full-clause-step g c = ticks (seen c.args.self.now) (seen c.args.self.now) c.in-Some.second refl

pub returns-in_err-uplink-clause-step : goal.returns-in_err-uplink-clause-step
returns-in_err-uplink-clause-step g c = rw (c.from_residual.ensures, c.in_err-uplink.ensures.none) (still (seen c.args.self.now))

pub returns-clause-step : goal.returns-clause-step
returns-clause-step g c = unjoins (seen c.args.self.now) c.in_ok-uplink.uplink c.give_up_dead.new.self.list.items c.in_ok-uplink.ensures.answered
