use Rattle.std.proofs.Common.{subst, sym}
use Rattle.aprsc_daemon.specs.Drill.{IsDriven}
use Rattle.aprsc_daemon.proofs.DrillLemmas.{driven_listen}
use Rattle.aprsc_daemon.proofs.drill.DrillWireWire.listen.Goals as goal

pub invariant_of-self : goal.invariant_of-self
invariant_of-self c =
    let self = c.self.inside in
    subst (λ wire. IsDriven self.plan self.events wire self.taken) (sym c.listen.ensures.exact) (driven_listen self.plan self.events self.wire self.taken c.args.n c.args.spec.now c.listen.result c.self.invariant)
