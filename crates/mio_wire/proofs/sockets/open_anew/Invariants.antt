use Rattle.std.proofs.Common.{◌≡◌, map}
use Rattle.mio_wire.proofs.sockets.open_anew.Given as goal

abbrev pub invariant-loop-ear : goal.invariant-loop-ear
invariant-loop-ear l = map (λ ear. ear.number) l.ears ≡ map (λ ear. ear.number) l.initial.ears
