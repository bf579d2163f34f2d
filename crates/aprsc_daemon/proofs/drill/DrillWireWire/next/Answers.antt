use Rattle.std.proofs.Common.{◌≡◌, ◌∷◌, ◌∙◌, subst, sym}
use Rattle.aprsc_daemon.specs.Drill.{IsDriven}
use Rattle.aprsc_daemon.proofs.DrillLemmas.{driven_next}
use Rattle.aprsc_daemon.proofs.drill.DrillWireWire.next.Goals as goal

pub invariant_of-self-2 : goal.invariant_of-self-2
invariant_of-self-2 c =
    let self = c.self.inside in
    let coming : self.events ≡ c.in-Some.event ∷ c.next.new.self = sym c.copy_events-later.ensures ∙ c.in-Some.ensures.steps in
    subst (λ wire. IsDriven self.plan c.next.new.self wire self.taken) (sym c.in_ok-note.ensures.ok)
    (driven_next self.plan c.in-Some.event c.next.new.self self.wire self.taken (subst (λ events. IsDriven self.plan events self.wire self.taken) coming c.self.invariant))
