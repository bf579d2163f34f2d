use Rattle.std.proofs.Common.{◌∙◌, ◌<◌, ◌≡◌, true, [], ap, refl, inr, length, subst, sym, true≢false}
use Rattle.std.specs.Prelude.{IfOk}
use Rattle.aprs_base.proofs.SlotLemmas.{each_takes-none}
use Rattle.aprs_history.specs.Headline.{HasFreshLinks}
use Rattle.aprs_history.specs.Runs.{are_listens}
use Rattle.server_core.specs.Meaning.{listeners}
use Rattle.aprsc_daemon.specs.Causes.{OpensOnly, code_of_status, is_before_serving, status_of}
use Rattle.aprsc_daemon.specs.Failing.{failed_by_serving, failed_with}
use Rattle.aprsc_daemon.specs.Phases.{Ends, JournalTold, Served}
use Rattle.aprsc_daemon.specs.Runs.{RunsFor, setting_named}
use Rattle.aprsc_daemon.specs.Saying.{listen_failed_text}
use Rattle.aprsc_daemon.proofs.CauseLemmas.{ended_cause, ended_serving, listener_cause, memory_cause}
use Rattle.aprsc_daemon.proofs.JournalLemmas.{told_by_end, told_none, untouched}
use Rattle.aprsc_daemon.proofs.RunLemmas.{runs_so}
use Rattle.aprsc_daemon.proofs.ServeLemmas.{fresh_named, run_ended, run_opened}
use Rattle.aprsc_daemon.proofs.program.run_conf.Goals as goal

pub returns-in_default-clause-journals : goal.returns-in_default-clause-journals
returns-in_default-clause-journals g c = ([], each_takes-none (λ z. (goal.Journal-dyn g z).journal_shown z.1) c.args.journals.now.items, untouched c.args.conf (g.W.Wire.shown c.args.wire.now).told 6)

pub returns-in_default-served-clause-journals : goal.returns-in_default-served-clause-journals
returns-in_default-served-clause-journals g c = ([], each_takes-none (λ z. (goal.Journal-dyn g z).journal_shown z.1) c.args.journals.now.items, untouched c.args.conf (g.W.Wire.shown c.args.wire.now).told 6)

pub returns-in-Ok-open-clause-journals : goal.returns-in-Ok-open-clause-journals
returns-in-Ok-open-clause-journals g c =
    let s = setting_named c.args.conf in
    let start = (g.W.Wire.shown c.args.wire.now).told in
    let now = (g.W.Wire.shown c.serve-end.new.wire).told in
    let served = c.serve-end.ensures.run in (
      served.0,
      served.1,
      subst (λ status. RunsFor c.args.conf start now (JournalTold (code_of_status status) s served.0)) (sym c.ended.ensures)
          (runs_so c.args.conf start now (Served s c.serve-end.result served.0) (JournalTold (code_of_status (status_of c.serve-end.result)) s served.0)
          (λ more at. told_by_end s c.serve-end.result served.0 more at)
          (run_ended c.args.conf c.in-Ok-served.served c.in-Ok.fronts c.open.new.fronts start (g.W.Wire.shown c.open.new.wire).told now c.in-Ok-open.core (λ t. Served t c.serve-end.result served.0)
          c.in-Ok-served.ensures.value (fresh_named c.args.conf c.in-Ok.fronts c.page_number-page.result c.upload_number-upload.result c.copy_call.result c.page_number-page.ensures c.upload_number-upload.ensures (c.copy_call.ensures ∙ ap (λ k. k.server) c.conf.view_is) c.in-Ok.ensures) c.open.ensures.same c.in-Ok-open.ensures.conf c.in-Ok-open.ensures.run (λ t. served.2 t []))),
    )

pub returns-in-Ok-open-clause-cause : goal.returns-in-Ok-open-clause-cause
returns-in-Ok-open-clause-cause g c = λ words files files_after read well.
    let s = setting_named c.args.conf in
    let start = (g.W.Wire.shown c.args.wire.now).told in
    let now = (g.W.Wire.shown c.serve-end.new.wire).told in
    let served = c.serve-end.ensures.run in
    ended_cause _ c.args.conf c.serve-end.result c.ended.result c.ended.ensures read well refl (c.serve-end.ensures.listens ∙ c.in-Ok-open.ensures.listens)
    (c.serve-end.ensures.nexts ∙ ap (failed_by_serving c.serve-end.result) c.open.ensures.nexts)
    (runs_so c.args.conf start now (Served s c.serve-end.result served.0) (Ends s c.serve-end.result) (λ more at. at.0)
    (run_ended c.args.conf c.in-Ok-served.served c.in-Ok.fronts c.open.new.fronts start (g.W.Wire.shown c.open.new.wire).told now c.in-Ok-open.core (λ t. Served t c.serve-end.result served.0)
    c.in-Ok-served.ensures.value (fresh_named c.args.conf c.in-Ok.fronts c.page_number-page.result c.upload_number-upload.result c.copy_call.result c.page_number-page.ensures c.upload_number-upload.ensures (c.copy_call.ensures ∙ ap (λ k. k.server) c.conf.view_is) c.in-Ok.ensures) c.open.ensures.same c.in-Ok-open.ensures.conf c.in-Ok-open.ensures.run (λ t. served.2 t [])))

pub returns-in-Ok-open-clause-still : goal.returns-in-Ok-open-clause-still
returns-in-Ok-open-clause-still g c = λ before. absurd (true≢false (sym before ∙ ap (λ status. is_before_serving (code_of_status status)) c.ended.ensures ∙ ended_serving c.serve-end.result))

pub returns-in-Err-Failed-clause-journals : goal.returns-in-Err-Failed-clause-journals
returns-in-Err-Failed-clause-journals g c =
    let s = setting_named c.args.conf in
    let start = (g.W.Wire.shown c.args.wire.now).told in
    let now = (g.W.Wire.shown c.open.new.wire).told in (
      [],
      each_takes-none (λ z. (goal.Journal-dyn g z).journal_shown z.1) c.args.journals.now.items,
      runs_so c.args.conf start now (λ more. HasFreshLinks more × (are_listens more ≡ true)) (JournalTold (code_of_status c.say_made.result) s []) (λ more only. told_none (code_of_status c.say_made.result) s more only.1)
          (run_opened c.args.conf c.in-Ok-served.served c.in-Ok.fronts start now (λ t more. HasFreshLinks more × (are_listens more ≡ true)) c.in-Ok-served.ensures.value (fresh_named c.args.conf c.in-Ok.fronts c.page_number-page.result c.upload_number-upload.result c.copy_call.result c.page_number-page.ensures c.upload_number-upload.ensures (c.copy_call.ensures ∙ ap (λ k. k.server) c.conf.view_is) c.in-Ok.ensures) c.in-Err-Failed.ensures.err),
    )

pub returns-in-Err-Failed-clause-cause : goal.returns-in-Err-Failed-clause-cause
returns-in-Err-Failed-clause-cause g c = λ words files files_after read well.
    let within = subst (λ k. c.in-Err-Failed.n < length (listeners k)) c.in-Ok-served.ensures.value (c.in-Err-Failed.ensures.within c.in-Err-Failed.n c.in-Err-Failed.field-0-is) in
    let failed = run_opened c.args.conf c.in-Ok-served.served c.in-Ok.fronts (g.W.Wire.shown c.args.wire.now).told (g.W.Wire.shown c.open.new.wire).told (λ t. OpensOnly c.in-Err-Failed.n) c.in-Ok-served.ensures.value (fresh_named c.args.conf c.in-Ok.fronts c.page_number-page.result c.upload_number-upload.result c.copy_call.result c.page_number-page.ensures c.upload_number-upload.ensures (c.copy_call.ensures ∙ ap (λ k. k.server) c.conf.view_is) c.in-Ok.ensures)
    (c.in-Err-Failed.ensures.listen c.in-Err-Failed.n c.in-Err-Failed.field-0-is) in
    listener_cause _ c.args.conf c.in-Err-Failed.n c.say_made.result read within (record { file = well.0; reads = well.1; listens = c.in-Err-Failed.ensures.listens ∙ ap (λ e. failed_with e (g.W.Wire.shown c.args.wire.now).failed_listens) c.in-Err-Failed.field-0-is; nexts = c.open.ensures.nexts }) failed (c.say_made.ensures (listen_failed_text c.in-Err-Failed.n) (subst (λ m. IfOk c.listen_failed.result (λ made. made.items ≡ listen_failed_text m)) c.in-Err-Failed.n-is c.listen_failed.ensures))

pub returns-clause-journals : goal.returns-clause-journals
returns-clause-journals g c =
    let s = setting_named c.args.conf in
    let start = (g.W.Wire.shown c.args.wire.now).told in
    let now = (g.W.Wire.shown c.open.new.wire).told in (
      [],
      each_takes-none (λ z. (goal.Journal-dyn g z).journal_shown z.1) c.args.journals.now.items,
      runs_so c.args.conf start now (λ more. HasFreshLinks more × (are_listens more ≡ true)) (JournalTold 6 s []) (λ more only. told_none 6 s more only.1)
          (run_opened c.args.conf c.in-Ok-served.served c.in-Ok.fronts start now (λ t more. HasFreshLinks more × (are_listens more ≡ true)) c.in-Ok-served.ensures.value (fresh_named c.args.conf c.in-Ok.fronts c.page_number-page.result c.upload_number-upload.result c.copy_call.result c.page_number-page.ensures c.upload_number-upload.ensures (c.copy_call.ensures ∙ ap (λ k. k.server) c.conf.view_is) c.in-Ok.ensures) c.in-Err-Memory.ensures.err),
    )

pub returns-clause-cause : goal.returns-clause-cause
returns-clause-cause g c = λ words files files_after read well.
    let start = (g.W.Wire.shown c.args.wire.now).told in
    let now = (g.W.Wire.shown c.open.new.wire).told in
    memory_cause _ refl (inr (record {
      conf = c.args.conf;
      read = read;
      run = runs_so c.args.conf start now (λ more. HasFreshLinks more × (are_listens more ≡ true)) HasFreshLinks (λ more only. only.0)
          (run_opened c.args.conf c.in-Ok-served.served c.in-Ok.fronts start now (λ t more. HasFreshLinks more × (are_listens more ≡ true)) c.in-Ok-served.ensures.value (fresh_named c.args.conf c.in-Ok.fronts c.page_number-page.result c.upload_number-upload.result c.copy_call.result c.page_number-page.ensures c.upload_number-upload.ensures (c.copy_call.ensures ∙ ap (λ k. k.server) c.conf.view_is) c.in-Ok.ensures) c.in-Err-Memory.ensures.err);
    })) (record { file = well.0; reads = well.1; listens = c.in-Err-Memory.ensures.listens ∙ ap (λ e. failed_with e (g.W.Wire.shown c.args.wire.now).failed_listens) c.in-Err-Memory.field-0-is; nexts = c.open.ensures.nexts })
