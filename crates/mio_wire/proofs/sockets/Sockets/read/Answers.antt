use Rattle.std.proofs.Common.{◌∙◌, ap, refl}
use Rattle.mio_wire.specs.Held.{listening_of}
use Rattle.mio_wire.specs.Linked.{dropped, numbers}
use Rattle.mio_wire.specs.Seen.{seen_of}
use Rattle.mio_wire.specs.Unread.{IsHeld}
use Rattle.mio_wire.proofs.HeldLemmas.{held_at, held_without}
use Rattle.mio_wire.proofs.StepLemmas.{ends, reads}
use Rattle.mio_wire.proofs.sockets.Sockets.read.Goals as goal

pub returns-then-matches-clause-step : goal.returns-then-matches-clause-step
returns-then-matches-clause-step g c = λ dials.
    let read : IsHeld c.read-reading.new.inbox (numbers c.args.links.now.list.items) = held_at c.read-reading.new.inbox (numbers c.args.links.now.list.items) c.read-reading.ensures.link in
    let held = held_without c.args.number c.read-reading.new.inbox (numbers c.args.links.now.list.items) read in
    let gone = c.let_go.ensures.numbers ∙ ap (dropped c.args.number) c.read-reading.ensures.same.0 in
    ends (seen_of c.args.self.now c.args.links.now dials) (seen_of c.let_go.new.self c.let_go.new.links dials) c.args.number c.requires.empty (rw (c.let_go.ensures.kept, gone) held) c.requires.there gone (c.let_go.ensures.links.1 ∙ c.read-reading.ensures.same.1) refl (ap listening_of c.let_go.ensures.kept)

pub returns-clause-step : goal.returns-clause-step
unfolding IsHeld
returns-clause-step g c = λ dials.
    reads (seen_of c.args.self.now c.args.links.now dials) _ c.requires.empty (λ left. c.read-reading.ensures.link) c.read-reading.ensures.same.0 c.read-reading.ensures.same.1 refl refl
