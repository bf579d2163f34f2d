use Rattle.std.proofs.Common.{[], refl, ap, ◌∙◌, subst}
use Rattle.std.specs.Prelude.{slice_get}
use Rattle.aprs_base.specs.Outside.{with_dial}
use Rattle.aprs_base.specs.declared.events.Happening.TheVariants as did
use Rattle.front_history.specs.Serving.{Serves}
use Rattle.aprsc_daemon.specs.Phases.{Acting}
use Rattle.aprsc_daemon.proofs.BringLemmas.{brings_told}
use Rattle.aprsc_daemon.proofs.ReachLemmas.{dial_there, found_at, missed_at, ok_then, run_dials}
use Rattle.aprsc_daemon.proofs.serving.dial_due.Goals as goal

pub returns-in-Some-get-clause-run : goal.returns-in-Some-get-clause-run
returns-in-Some-get-clause-run g c = λ s lines core casts offers closes same uplinks.
    ok_then c.dial.result c.dial.ensures.ok (λ is state start run.
    run_dials lines s (g.W.Wire.shown c.args.wire.now).told (g.W.Wire.shown c.dial.new.self).told core c.in-Some.uplink c.in-Some-get.spec.now casts offers closes same
    (ap (λ xs. slice_get xs c.in-Some.uplink) uplinks ∙ found_at c.args.uplinks.now c.from.result c.in-Some.uplink c.in-Some-get.spec.now c.from.ensures c.in-Some-get.ensures.lookup.3.0 c.in-Some-get.ensures.lookup.1) is state start
    (subst (λ dial. Serves s start (g.W.Wire.shown c.args.wire.now).told state (Acting lines core dial casts offers closes)) c.in-Some.is run))

pub returns-in-None-clause-run : goal.returns-in-None-clause-run
returns-in-None-clause-run g c = λ s lines core casts offers closes same uplinks state start run.
    dial_there lines s (g.W.Wire.shown c.args.wire.now).told core c.in-Some.uplink casts offers closes same
    (ap (λ xs. slice_get xs c.in-Some.uplink) uplinks ∙ missed_at c.args.uplinks.now c.from.result c.in-Some.uplink c.from.ensures c.in-None.ensures.lookup.3) state start
    (subst (λ dial. Serves s start (g.W.Wire.shown c.args.wire.now).told state (Acting lines core dial casts offers closes)) c.in-Some.is run)

pub returns-in-Some-get-clause-brings : goal.returns-in-Some-get-clause-brings
returns-in-Some-get-clause-brings g c =
    ok_then c.dial.result c.dial.ensures.ok (brings_told (did.Dialled c.in-Some.uplink) (with_dial c.in-Some.uplink c.in-Some-get.spec.now) [] (g.W.Wire.shown c.args.wire.now).told (g.W.Wire.shown c.dial.new.self).told (λ told. refl) refl)
