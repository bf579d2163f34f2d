use Rattle.std.proofs.Common.{◌∙◌, Some, ap, inl, inr, refl, subst, sym}
use Rattle.aprs_base.specs.Stores.{Holds}
use Rattle.net_script.specs.declared.errors.ScriptError.TheVariants as script_error
use Rattle.net_script.specs.Reading.{FailsAt}
use Rattle.net_report.specs.Told.{text_of}
use Rattle.aprsc_daemon.specs.Saying.{bad_step_text, too_large_text}
use Rattle.aprsc_daemon.proofs.CauseLemmas.{memory_cause, off_script_cause, script_cause, told_fault, told_script}
use Rattle.aprsc_daemon.proofs.program.run_script.Goals as goal

pub returns-in-Ok : goal.returns-in-Ok
returns-in-Ok g c = λ words files files_after wire named holds well.
    let told = told_script c.args.text.now c.in-Ok.report.items c.in-Ok.ensures in
    script_cause _ told.0 _ c.say.result (record { asked = c.args.asked.now; bytes = c.args.text.now; named = named; holds = holds; reads = told.1 }) (c.as_slice.ensures.value ∙ told.2) refl
    (record { file = well.0; reads = well.1; listens = refl; nexts = refl }) c.say.ensures

pub returns-in-Err-TooLarge : goal.returns-in-Err-TooLarge
returns-in-Err-TooLarge g c = λ words files files_after wire named holds well.
    let text = too_large_text c.asked.inside.file.now in
    let fault = told_fault c.args.text.now script_error.TooLarge (subst (λ e. FailsAt e (text_of c.args.text.now)) c.in-Err-TooLarge.field-0-is c.in-Err-TooLarge.ensures) in
    off_script_cause _ _ c.args.text.now text c.say_made.result (named ∙ ap Some (sym c.asked.view_is)) (subst (λ asked. Holds files.told asked.file c.args.text.now) (sym c.asked.view_is) holds)
    (inl (fault, refl)) refl (record { file = well.0; reads = well.1; listens = refl; nexts = refl }) (c.say_made.ensures text c.too_large.ensures)

pub returns-in-Err-BadStep : goal.returns-in-Err-BadStep
returns-in-Err-BadStep g c = λ words files files_after wire named holds well.
    let line = c.in-Err-BadStep.line in
    let text = bad_step_text c.asked.inside.file.now line in
    let fault = told_fault c.args.text.now (script_error.BadStep line) (subst (λ e. FailsAt e (text_of c.args.text.now)) c.in-Err-BadStep.field-0-is c.in-Err-BadStep.ensures) in
    off_script_cause _ _ c.args.text.now text c.say_made-in-Err-BadStep.result (named ∙ ap Some (sym c.asked.view_is)) (subst (λ asked. Holds files.told asked.file c.args.text.now) (sym c.asked.view_is) holds)
    (inr (line, fault, refl)) refl (record { file = well.0; reads = well.1; listens = refl; nexts = refl }) (c.say_made-in-Err-BadStep.ensures text c.bad_step.ensures)

pub returns-in-Err-Memory : goal.returns-in-Err-Memory
returns-in-Err-Memory g c = λ words files files_after wire named holds well. memory_cause _ refl (inl refl) (record { file = well.0; reads = well.1; listens = refl; nexts = refl })
