use Rattle.std.proofs.Common.{◌≡◌, None}
use Rattle.mio_wire.specs.Seen.{IsStep, seen}
use Rattle.mio_wire.proofs.wire.MioWireWire.next.Given as goal

-- steps were taken that handed nothing up
abbrev pub invariant-loop : goal.invariant-loop
invariant-loop g l =
    (goal.iterator-loop g).can_next l.iterator'
    × (goal.iterator-loop g).is_finite l.iterator'
    × IsStep (seen l.initial.self) (seen l.self) None
    × (l.self ≡ record l.initial.self { sockets = l.self.sockets; parting = l.self.parting; links = l.self.links; dials = l.self.dials; ahead = l.self.ahead; asked = l.self.asked })
