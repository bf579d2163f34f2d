use Rattle.mio_wire.proofs.wire.MioWireWire.dial.Goals as goal

pub returns-clause-begun : goal.returns-clause-begun
returns-clause-begun g c =
    let begun = c.in_ok-dial.ensures in
    record { dial = c.in_ok-dial.dial; named = begun.named; digits = begun.digits; since = begun.since; last = rw begun.dials at c.in_ok-add.ensures.ok }
