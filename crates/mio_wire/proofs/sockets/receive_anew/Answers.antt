use Rattle.std.proofs.Common.{refl, ◌∙◌}
use Rattle.std.proofs.Math.Seq.{map-set_same}
use Rattle.mio_wire.specs.declared.mail.Mailbox.{Mailbox}
use Rattle.mio_wire.proofs.sockets.receive_anew.Goals as goal

pub loop-mailbox-preserved : goal.loop-mailbox-preserved
loop-mailbox-preserved c = map-set_same (λ (mailbox : Mailbox). mailbox.number) c.loop-mailbox.mailboxes c.loop-mailbox.mailbox-index _ _ refl ∙ c.loop-mailbox.invariant
