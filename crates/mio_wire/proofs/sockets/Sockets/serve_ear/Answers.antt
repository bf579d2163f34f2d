use Rattle.mio_wire.specs.Seen.{seen_of}
use Rattle.mio_wire.proofs.StepLemmas.{fails}
use Rattle.mio_wire.proofs.sockets.Sockets.serve_ear.Goals as goal
use Rattle.mio_wire.proofs.sockets.Sockets.serve_ear.Goals.{then-is_none, else-is_none}

pub returns-in_err-opened-clause-step : goal.returns-in_err-opened-clause-step
returns-in_err-opened-clause-step c = λ dials.
    fails (seen_of c.args.self.now c.args.links.now dials) (seen_of c.open_link.new.self c.open_link.new.links dials) c.from_residual.result c.from_residual.ensures.0 (c.in_err-opened.ensures.step dials)

pub returns-clause-step : goal.returns-clause-step
returns-clause-step c = λ dials. elim c.if-is_none.branch [
  | then-is_none w ↦ rw w.self-is (c.in_ok-opened.ensures.step dials)
  | else-is_none w ↦ rw w.self-is (c.in_ok-opened.ensures.step dials)
]
