use Rattle.std.proofs.Common.{refl, subst, sym}
use Rattle.aprs_base.specs.Outside.{with_dial}
use Rattle.aprs_base.specs.declared.events.Happening.TheVariants as did
use Rattle.aprsc_daemon.specs.Drill.{IsDriven}
use Rattle.aprsc_daemon.proofs.DrillLemmas.{driven_act}
use Rattle.aprsc_daemon.proofs.drill.DrillWireWire.dial.Goals as goal

pub invariant_of-self : goal.invariant_of-self
invariant_of-self c =
    let self = c.self.inside in
    subst (λ wire. IsDriven self.plan self.events wire self.taken) (sym c.dial.ensures.exact)
    (driven_act self.plan self.events self.wire self.taken (did.Dialled c.args.uplink) (with_dial c.args.uplink c.args.spec.now) c.dial.result (λ told. refl) refl (λ all. all) refl c.self.invariant)
