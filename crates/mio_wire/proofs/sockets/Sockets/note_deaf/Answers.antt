use Rattle.std.proofs.Common.{◌≡◌, refl, ap}
use Rattle.std.proofs.Math.Seq.{map-set_same}
use Rattle.mio_wire.specs.Held.{listening_of}
use Rattle.mio_wire.specs.declared.sockets.Ear.{Ear}
use Rattle.mio_wire.proofs.ListenLemmas.{set_at}
use Rattle.mio_wire.proofs.sockets.Sockets.note_deaf.Goals as goal

pub returns-clause-listening : goal.returns-clause-listening
returns-clause-listening c =
    ap (λ ns. record (listening_of c.args.self.now) { links = ns }) (map-set_same (λ (ear : Ear). ear.number) c.args.self.now.ears.items c.args.place _ c.index_mut.result.now (ap (λ (ear : Ear). ear.number) c.index_mut.ensures.value))

pub returns-clause-deaf : goal.returns-clause-deaf
returns-clause-deaf c = set_at (λ (ear : Ear). ear.deaf ≡ c.args.deaf) c.args.self.now.ears.items c.args.place _ refl
