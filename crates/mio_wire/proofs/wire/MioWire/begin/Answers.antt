use Rattle.mio_wire.proofs.wire.MioWire.begin.Goals as goal

pub returns-in_ok-connect-in-Some-clause-digits : goal.returns-in_ok-connect-in-Some-clause-digits
returns-in_ok-connect-in-Some-clause-digits g c = λ a written. rw c.in-Some.is at (c.in_ok-at.ensures.digits a written)

pub returns-in-None-clause-digits : goal.returns-in-None-clause-digits
returns-in-None-clause-digits g c = λ a written. absurd (rw c.in-None.is at (c.in_ok-at.ensures.digits a written))
