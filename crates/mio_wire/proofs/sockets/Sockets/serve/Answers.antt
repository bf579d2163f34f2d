use Rattle.std.proofs.Common.{ap}
use Rattle.mio_wire.specs.Held.{Holding, listening_of}
use Rattle.mio_wire.specs.Seen.{seen_of}
use Rattle.mio_wire.proofs.StepLemmas.{brings_at, brought_arrives, opened_arrives, still}
use Rattle.mio_wire.proofs.sockets.Sockets.serve.Goals as goal

pub returns-in_default-clause-step : goal.returns-in_default-clause-step
returns-in_default-clause-step c = still (seen_of c.args.self.now c.args.links.now c.args.dials.now)

pub returns-in-Link-clause-step : goal.returns-in-Link-clause-step
returns-in-Link-clause-step c = rw c.whole.ensures (c.serve_link.ensures.step c.args.dials.now)

pub returns-in-Ear-clause-step : goal.returns-in-Ear-clause-step
returns-in-Ear-clause-step c = rw c.whole-in-Ear.ensures (c.serve_ear.ensures.step c.args.dials.now)

pub returns-in-Ear-clause-arrival : goal.returns-in-Ear-clause-arrival
returns-in-Ear-clause-arrival c = rw c.whole-in-Ear.ensures (opened_arrives (listening_of c.args.self.now).links c.in-Ear.place c.serve_ear.result c.serve_ear.ensures.named)

pub returns-in-Mailbox-clause-step : goal.returns-in-Mailbox-clause-step
returns-in-Mailbox-clause-step c =
    let before = seen_of c.args.self.now c.args.links.now c.args.dials.now in
    brings_at c.in-Mailbox.place before (seen_of c.serve_mailbox.new.self c.args.links.now c.args.dials.now) c.serve_mailbox.result
    (ap (λ (h : Holding). record before { unread = h.unread; heard = h.heard }) c.serve_mailbox.ensures.holding) c.serve_mailbox.ensures.named

pub returns-in-Mailbox-clause-arrival : goal.returns-in-Mailbox-clause-arrival
returns-in-Mailbox-clause-arrival c = brought_arrives (listening_of c.args.self.now).mail c.in-Mailbox.place c.serve_mailbox.result c.serve_mailbox.ensures.named
