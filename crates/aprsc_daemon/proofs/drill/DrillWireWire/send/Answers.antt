use Rattle.std.proofs.Common.{◌≡◌, ◌+◌, length, rules, subst, sym}
use Rattle.aprs_base.specs.declared.texts.Memory.{Memory}
use Rattle.aprsc_daemon.specs.Drill.{IsDriven}
use Rattle.aprsc_daemon.proofs.DrillLemmas.{driven_send}
use Rattle.aprsc_daemon.proofs.drill.DrillWireWire.send.Goals as goal

pub invariant_of-self-2 : goal.invariant_of-self-2
invariant_of-self-2 c =
    let self = c.self.inside in
    let taken : c.in-Some.taken ≡ self.taken + length c.args.bytes.now = search rules in
    subst (λ n. IsDriven self.plan self.events c.send.new.self n) (sym taken)
    (subst (λ wire. IsDriven self.plan self.events wire (self.taken + length c.args.bytes.now)) (sym c.in_ok-sent.ensures.exact)
    (driven_send Memory self.plan self.events self.wire self.taken c.args.link c.args.bytes.now c.in_ok-sent.sent c.in_ok-sent.ensures.outcome c.self.invariant))
