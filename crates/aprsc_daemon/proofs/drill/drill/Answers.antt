use Rattle.std.proofs.Common.{◌∙◌, IfSome, [], Some, ap, refl, subst}
use Rattle.aprs_history.specs.History.{History}
use Rattle.aprs_history.specs.Runs.{AppendsRun}
use Rattle.server_core.specs.Meaning.{setting_of}
use Rattle.aprsc_daemon.specs.Drill.{IsDriven, drill_setting}
use Rattle.aprs_history.specs.Stands.{StandsFor}
use Rattle.front_history.specs.Serving.{Opens}
use Rattle.front_history.proofs.FrontLemmas.{no_ports}
use Rattle.aprsc_daemon.specs.Fronts.{AreNew}
use Rattle.aprsc_daemon.specs.Phases.{Finished, Resting}
use Rattle.aprsc_daemon.proofs.ServeLemmas.{run_alone}
use Rattle.aprsc_daemon.proofs.DrillLemmas.{counts_of_run}
use Rattle.aprsc_daemon.proofs.drill.drill.Goals as goal

pub returns-in-Stopped-Some : goal.returns-in-Stopped-Some
returns-in-Stopped-Some g c =
    let same = c.in_ok-conf.ensures.setting in
    let start = Some c.in_ok-wire.wire.wire.told in
    let Q : History → Type 0 = λ more. Finished drill_setting more × StandsFor drill_setting c.serve-end.new.core.seen more in
    let opened = subst (λ s. Opens s c.in_ok-fronts.fronts.page c.in_ok-fronts.fronts.http start (Some c.open.new.wire.wire.told) (Resting [] c.in-Ok.core)) same c.in-Ok.ensures.run in
    let run = run_alone drill_setting c.in_ok-fronts.fronts c.open.new.fronts start (Some c.open.new.wire.wire.told) (Some c.serve-end.new.wire.wire.told) (Resting [] c.in-Ok.core) Q refl (subst (λ server. AreNew no_ports server c.in_ok-fronts.fronts) (c.copy_call.ensures ∙ ap (λ k. k.server) c.conf.view_is ∙ ap (λ s. s.server) same) c.in_ok-fronts.ensures) c.open.ensures.same opened
    (c.serve-end.ensures.stands c.in-Stopped-Some.is-0 drill_setting [] (ap setting_of c.in-Ok.ensures.conf ∙ same)) in
    counts_of_run c.args.asked.plan c.serve-end.new.wire.wire c.in-Stopped-Some.taken c.serve-end.new.core _
    (subst (λ taken. IfSome taken (λ bytes. IsDriven c.args.asked.plan [] c.serve-end.new.wire.wire bytes)) c.in-Stopped-Some.is-1 c.taken_by-taken.ensures)
    (subst (λ begun. AppendsRun drill_setting begun (Some c.serve-end.new.wire.wire.told) Q) c.in_ok-wire.ensures run)
    (λ h stands. c.totals-totals.ensures.kept ∙ stands.follows.totals) refl
