use Rattle.std.proofs.Common.{◌≡◌, drop}
use Rattle.mio_wire.specs.Held.{with_deaf}
use Rattle.mio_wire.proofs.sockets.wake_all.Given as goal

-- those that are left to be woken make of what waits now what all make of what waited
abbrev pub invariant-loop-ear : goal.invariant-loop-ear
invariant-loop-ear l = with_deaf (drop l.ear-index l.ears) l.turns.later.items ≡ with_deaf l.ears l.initial.turns.later.items
