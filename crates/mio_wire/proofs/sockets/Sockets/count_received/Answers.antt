use Rattle.std.proofs.Common.{ap}
use Rattle.std.proofs.Math.Seq.{map-set_same}
use Rattle.mio_wire.specs.Held.{listening_of}
use Rattle.mio_wire.specs.declared.mail.Mailbox.{Mailbox}
use Rattle.mio_wire.proofs.sockets.Sockets.count_received.Goals as goal

pub returns-clause-listening : goal.returns-clause-listening
returns-clause-listening c =
    ap (λ ns. record (listening_of c.args.self.now) { mail = ns }) (map-set_same (λ (mailbox : Mailbox). mailbox.number) c.args.self.now.mailboxes.items c.args.place _ c.index_mut-mailbox.result.now (ap (λ (mailbox : Mailbox). mailbox.number) c.index_mut-mailbox.ensures.value))
