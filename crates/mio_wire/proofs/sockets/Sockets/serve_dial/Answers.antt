use Rattle.mio_wire.specs.Seen.{seen_of}
use Rattle.mio_wire.proofs.StepLemmas.{still, unjoins}
use Rattle.mio_wire.proofs.sockets.Sockets.serve_dial.Goals as goal

pub returns-in_default-clause-step : goal.returns-in_default-clause-step
returns-in_default-clause-step c = still (seen_of c.args.self.now c.args.links.now c.args.dials.now)

pub returns-in-Waits-clause-step : goal.returns-in-Waits-clause-step
returns-in-Waits-clause-step c = still (seen_of c.args.self.now c.args.links.now c.args.dials.now)

pub returns-in-Fails-clause-step : goal.returns-in-Fails-clause-step
returns-in-Fails-clause-step c = unjoins (seen_of c.args.self.now c.args.links.now c.args.dials.now) c.give_up.result c.give_up.new.self.list.items c.give_up.ensures.answered
