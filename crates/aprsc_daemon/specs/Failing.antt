-- The counts of failed calls after parts of the program.
use Rattle.std.specs.Prelude.{◌≡◌, ℕ, Result, Ok, Err}
use Rattle.aprs_base.specs.Outside.{WireShown, one_more}
use Rattle.aprsc_daemon.specs.declared.serving.End.{End}
use Rattle.aprsc_daemon.specs.declared.serving.End.TheVariants as ended
use Rattle.aprsc_daemon.specs.declared.serving.ListenError.{ListenError}
use Rattle.aprsc_daemon.specs.declared.serving.ListenError.TheVariants as listen_error

-- neither a call of `listen` nor one of `next` failed
abbrev pub FailsNot : WireShown → WireShown → Type 0
FailsNot old new = (new.failed_listens ≡ old.failed_listens) × (new.failed_nexts ≡ old.failed_nexts)

-- the count of failed calls of `listen` where the opening of listeners ends so
abbrev pub failed_with : ListenError → ℕ → ℕ
failed_with (listen_error.Failed n) failed = one_more failed
failed_with listen_error.Memory failed = failed

abbrev pub failed_by_opening : {T : Type 0} → Result T ListenError → ℕ → ℕ
failed_by_opening (Ok _) failed = failed
failed_by_opening (Err e) failed = failed_with e failed

-- the count of failed calls of `next` where the serving of a wire ends so
abbrev pub failed_by_serving : End → ℕ → ℕ
failed_by_serving ended.Stopped failed = failed
failed_by_serving ended.Failed failed = one_more failed
failed_by_serving ended.Memory failed = failed
