use Rattle.std.proofs.Common.{◌≡◌, ◌∙◌, ap, rules}
use Rattle.mio_wire.specs.Held.{holding}
use Rattle.mio_wire.specs.Seen.{seen, seen_of}
use Rattle.mio_wire.specs.Unread.{Brought}
use Rattle.mio_wire.proofs.StepLemmas.{fails, hands_up, nothing_taken, still}
use Rattle.mio_wire.proofs.wire.MioWire.arrived.Goals as goal

pub returns-in_default-clause-step : goal.returns-in_default-clause-step
returns-in_default-clause-step g c = still (seen c.args.self.now)

pub returns-in-Some-take_chunk-clause-step : goal.returns-in-Some-take_chunk-clause-step
unfolding holding
returns-in-Some-take_chunk-clause-step g c =
    rw (c.in-Some.is, c.take_chunk.ensures.rest) (hands_up (seen_of c.in-Some.sockets c.args.self.now.links c.args.self.now.dials) c.in-Some-take_chunk.link c.in-Some-take_chunk.bytes (search rules) c.in-Some-take_chunk.ensures.some)

pub returns-in_err-serve-clause-step : goal.returns-in_err-serve-clause-step
unfolding holding
returns-in_err-serve-clause-step g c =
    let empty = c.in_default-take_chunk.ensures.none in
    let same : c.take_chunk.new.self ≡ c.in-Some.sockets = c.take_chunk.ensures.rest ∙ ap (λ (left : Brought). record c.in-Some.sockets { inbox = left }) (nothing_taken 1460 c.in-Some.sockets.inbox.link c.in-Some.sockets.inbox.left empty) in
    rw c.in-Some.is (fails (seen_of c.in-Some.sockets c.args.self.now.links c.args.self.now.dials) (seen_of c.serve.new.self c.serve.new.links c.serve.new.dials) c.from_residual.result c.from_residual.ensures.0 (rw same at c.in_err-serve.ensures.step))

pub returns-clause-step : goal.returns-clause-step
unfolding holding
returns-clause-step g c =
    let empty = c.in_default-take_chunk.ensures.none in
    let same : c.take_chunk.new.self ≡ c.in-Some.sockets = c.take_chunk.ensures.rest ∙ ap (λ (left : Brought). record c.in-Some.sockets { inbox = left }) (nothing_taken 1460 c.in-Some.sockets.inbox.link c.in-Some.sockets.inbox.left empty) in
    rw (c.in-Some.is, ← same) c.in_ok-serve.ensures.step
