use Rattle.mio_wire.proofs.wire.MioWire.offer.Goals as goal
use Rattle.mio_wire.specs.Held.{holding}

pub returns-in_err-send-clause-held : goal.returns-in_err-send-clause-held
unfolding holding
returns-in_err-send-clause-held g c = λ held. c.send.ensures.held (rw c.in-Some.is at held)
