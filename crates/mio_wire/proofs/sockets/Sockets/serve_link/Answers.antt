use Rattle.mio_wire.specs.Seen.{seen_of}
use Rattle.mio_wire.proofs.StepLemmas.{has_room, still}
use Rattle.mio_wire.proofs.sockets.Sockets.serve_link.Goals as goal

pub returns-in_default-clause-step : goal.returns-in_default-clause-step
returns-in_default-clause-step g c = λ dials. still (seen_of c.args.self.now c.args.links.now dials)

pub returns-then-note-clause-step : goal.returns-then-note-clause-step
returns-then-note-clause-step g c = λ dials. rw (c.note.ensures.same.0, c.note.ensures.same.1) (has_room (seen_of c.args.self.now c.args.links.now dials) c.args.number c.in-Some.ensures.there)

pub returns-then-not-ready-clause-step : goal.returns-then-not-ready-clause-step
returns-then-not-ready-clause-step g c = λ dials. rw (c.note.ensures.same.0, c.note.ensures.same.1) (still (seen_of c.args.self.now c.args.links.now dials))

pub returns-clause-step : goal.returns-clause-step
returns-clause-step g c = λ dials. rw (c.note.ensures.same.0, c.note.ensures.same.1) at (c.read.ensures.step dials)
