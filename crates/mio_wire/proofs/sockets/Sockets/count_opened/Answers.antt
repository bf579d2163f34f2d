use Rattle.std.proofs.Common.{ap}
use Rattle.std.proofs.Math.Seq.{map-set_same}
use Rattle.mio_wire.specs.Held.{listening_of}
use Rattle.mio_wire.specs.declared.sockets.Ear.{Ear}
use Rattle.mio_wire.proofs.sockets.Sockets.count_opened.Goals as goal

pub returns-clause-listening : goal.returns-clause-listening
returns-clause-listening c =
    ap (λ ns. record (listening_of c.args.self.now) { links = ns }) (map-set_same (λ (ear : Ear). ear.number) c.args.self.now.ears.items c.args.place _ c.index_mut-ear.result.now (ap (λ (ear : Ear). ear.number) c.index_mut-ear.ensures.value))
