use Rattle.std.proofs.Common.{◌≡◌, sym, ap, ◌∙◌, subst, ◌++◌, ◌∷◌, true, false, reverse}
use Rattle.std.specs.List.{cons_option}
use Rattle.net_history.specs.Steps.{is_there, network_of}
use Rattle.net_schedule.specs.Running.{layout_of}
use Rattle.net_schedule.specs.Standing.{StandsFor}
use Rattle.net_script.specs.Running.{event_of, not_there, with_opening}
use Rattle.net_report.specs.Told.{HasCome, RunKept}
use Rattle.net_report.proofs.ProgressLemmas.{came_not_there, came_there, on_ok}
use Rattle.net_report.proofs.running.Run.take.Goals as goal

pub returns-in-Done-clause-come : goal.returns-in-Done-clause-come
returns-in-Done-clause-come g c = λ before come.
    let step = c.args.line.step in
    let has = subst (λ r. HasCome r before) (sym c.self.view_is) come in
    let same = ap (λ (r : RunKept). layout_of r.network) c.self.view_is in
    let layout = layout_of c.args.self.now.network in
    let said = c.event_of-event.ensures ∙ ap (λ o. event_of (reverse o) step) c.as_slice.ensures.value ∙ ap (λ o. event_of o step) has.openings in
    let done = c.in_ok-step.ensures.done before.steps has.stands c.in-Done.is in
    let was_there = subst (λ e. is_there (layout_of c.self.inside.network) (network_of (layout_of c.self.inside.network) before.steps) e ≡ true) said done.0 in
    let there = subst (λ l. is_there l (network_of l before.steps) (event_of before.openings step) ≡ true) same was_there in
    let opened = subst (λ l. with_opening (network_of l before.steps) step before.openings ≡ cons_option c.opened_by-opened.result before.openings) same (c.opened_by-opened.ensures before.steps before.openings has.stands was_there) in
    on_ok c.push_some.result (λ pushed. came_there layout before c.args.line _ there c.in_ok-step.ensures.going (subst (λ e. StandsFor c.step.new.self (e ∷ before.steps)) said done.1)
    (pushed ∙ ap (cons_option c.opened_by-opened.result) has.openings ∙ sym opened) has.answers) c.push_some.ensures

pub returns-in-NotThere-clause-come : goal.returns-in-NotThere-clause-come
returns-in-NotThere-clause-come g c = λ before come.
    let step = c.args.line.step in
    let has = subst (λ r. HasCome r before) (sym c.self.view_is) come in
    let same = ap (λ (r : RunKept). layout_of r.network) c.self.view_is in
    let layout = layout_of c.args.self.now.network in
    let said = c.event_of-event.ensures ∙ ap (λ o. event_of (reverse o) step) c.as_slice.ensures.value ∙ ap (λ o. event_of o step) has.openings in
    let missing = c.in_ok-step.ensures.not_there before.steps has.stands c.in-NotThere.is in
    let was_missing = subst (λ e. is_there (layout_of c.self.inside.network) (network_of (layout_of c.self.inside.network) before.steps) e ≡ false) said missing.0 in
    on_ok c.answer.result (λ answered. came_not_there layout before c.args.line _ (subst (λ l. is_there l (network_of l before.steps) (event_of before.openings step) ≡ false) same was_missing)
    c.in_ok-step.ensures.going (subst (λ n. StandsFor n before.steps) (sym missing.1) has.stands) has.openings (answered ∙ ap (λ text. text ++ not_there c.args.line.number) has.answers)) c.answer.ensures
