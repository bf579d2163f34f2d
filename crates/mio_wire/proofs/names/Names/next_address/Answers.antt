use Rattle.mio_wire.proofs.names.Names.next_address.Goals as goal

pub returns-in_err-place-clause-unasked : goal.returns-in_err-place-clause-unasked
returns-in_err-place-clause-unasked g c = λ a written. absurd (c.in_default.ensures.none a written)

pub returns-clause-digits : goal.returns-clause-digits
returns-clause-digits g c = λ a written. absurd (c.in_default.ensures.none a written)

pub returns-clause-unasked : goal.returns-clause-unasked
returns-clause-unasked g c = λ a written. absurd (c.in_default.ensures.none a written)
