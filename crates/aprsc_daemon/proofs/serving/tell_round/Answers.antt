use Rattle.std.proofs.Common.{◌++◌, ◌∙◌, [], ap, refl}
use Rattle.std.proofs.lemmas.Result.{err_from_is_err_and}
use Rattle.aprs_base.proofs.SlotLemmas.{each_takes-none}
use Rattle.aprs_history.specs.History.{trace_of}
use Rattle.aprs_history.specs.Journal.{round_lines}
use Rattle.aprs_history.specs.Rounds.{with_events}
use Rattle.server_core.specs.Meaning.{setting_of}
use Rattle.aprsc_daemon.proofs.EventLemmas.{err_any, no_ok}
use Rattle.aprsc_daemon.proofs.serving.tell_round.Goals as goal

pub returns-in_err-acts-clause-told : goal.returns-in_err-acts-clause-told
returns-in_err-acts-clause-told g c =
    let error = err_from_is_err_and c.from_residual.result c.from_residual.ensures.1 in (
      [],
      each_takes-none (λ z. (goal.Journal-dyn g z).journal_shown z.1) c.args.journals.now.items,
      no_ok _ c.from_residual.result error.0 error.1,
      err_any c.from_residual.result refl,
    )

pub returns-clause-told : goal.returns-clause-told
returns-clause-told g c = (
  c.as_slice.result.now,
  c.tell_all.ensures,
  λ h stands.
      let s = setting_of c.args.core.now.conf in
      c.as_slice.ensures.value ∙ c.in_ok-acts.ensures.lines h stands ∙ ap (λ front. front ++ round_lines s (trace_of s (with_events c.args.events.now h))) c.new-lines.ensures.items,
  tt,
)
