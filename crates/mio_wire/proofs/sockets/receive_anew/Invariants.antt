use Rattle.std.proofs.Common.{◌≡◌, map}
use Rattle.mio_wire.proofs.sockets.receive_anew.Given as goal

abbrev pub invariant-loop-mailbox : goal.invariant-loop-mailbox
invariant-loop-mailbox l = map (λ mailbox. mailbox.number) l.mailboxes ≡ map (λ mailbox. mailbox.number) l.initial.mailboxes
