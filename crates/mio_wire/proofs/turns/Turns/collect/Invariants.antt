use Rattle.std.proofs.Common.{◌≡◌}
use Rattle.mio_wire.proofs.turns.Turns.collect.Given as goal

abbrev pub invariant-loop-event : goal.invariant-loop-event
invariant-loop-event l = l.self ≡ record l.fn.self { came = l.self.came }
