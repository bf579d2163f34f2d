use Rattle.mio_wire.specs.Linked.{numbers}
use Rattle.mio_wire.proofs.HeldLemmas.{held_without}
use Rattle.mio_wire.proofs.wire.MioWire.take.Goals as goal
use Rattle.mio_wire.specs.Held.{holding}

pub returns-in-Some-clause-held : goal.returns-in-Some-clause-held
unfolding holding
returns-in-Some-clause-held g c = λ held.
    rw (c.take.ensures.kept, c.take.ensures.numbers) (held_without c.args.link c.in-Some.sockets.inbox (numbers c.args.self.now.links.list.items) (rw c.in-Some.is at held))
