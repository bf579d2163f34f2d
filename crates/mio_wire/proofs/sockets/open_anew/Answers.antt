use Rattle.std.proofs.Common.{refl, ◌∙◌}
use Rattle.std.proofs.Math.Seq.{map-set_same}
use Rattle.mio_wire.specs.declared.sockets.Ear.{Ear}
use Rattle.mio_wire.proofs.sockets.open_anew.Goals as goal

pub loop-ear-preserved : goal.loop-ear-preserved
loop-ear-preserved c = map-set_same (λ (ear : Ear). ear.number) c.loop-ear.ears c.loop-ear.ear-index _ _ refl ∙ c.loop-ear.invariant
