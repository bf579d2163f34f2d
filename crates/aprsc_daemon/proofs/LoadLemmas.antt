-- From what the reading of a configuration's file gave to the cause of a status.
use Rattle.std.proofs.Common.{◌≡◌, inl, inr, ℕ, ◌≤◌, List, length, refl, sym, ap, ◌∙◌, subst, Some, Result, Ok, Err, IfOk, IfErr, ⊎_elim}
use Rattle.std.specs.Prelude.{IsErrOf}
use Rattle.aprs_base.specs.Stores.{FilesShown, Holds}
use Rattle.aprs_conf.specs.Grammar.{conf_of}
use Rattle.aprs_conf.specs.Seen.{ConfSeen}
use Rattle.aprs_conf.specs.Sound.{IsSound}
use Rattle.aprsc_daemon.specs.Causes.{Cause, FailsFor, HasNamed, IsUnused, Outside, ReadsOne, ReadsWell, failed_listens, failed_nexts, failed_reads}
use Rattle.aprsc_daemon.specs.Configuring.{IsTrouble}
use Rattle.aprsc_daemon.specs.Loading.{IsOfText, Loads, SaysUnfit}
use Rattle.aprsc_daemon.specs.Saying.{too_large_text, trouble_text}
use Rattle.aprsc_daemon.specs.Words.{ServerWordsSeen, asked_of}
use Rattle.aprsc_daemon.specs.declared.configuring.Trouble.{Trouble}
use Rattle.aprsc_daemon.specs.declared.configuring.Unfit.{Unfit}
use Rattle.aprsc_daemon.specs.declared.configuring.Unfit.TheVariants as unfit
use Rattle.aprsc_daemon.specs.declared.program.Status.{Status}
use Rattle.aprsc_daemon.specs.declared.program.Status.TheVariants as status
use Rattle.aprsc_daemon.specs.declared.words.Task.{Task}
use Rattle.aprsc_daemon.proofs.CauseLemmas.{fails_read, memory_cause, off_cause, unread_cause}

-- what a text was read as, where a file holds it
pub loads_text : (r : Result ConfSeen Unfit) (old new : FilesShown) (name text bytes : List ℕ) → Holds old.told name bytes → length bytes ≤ 65536 → text ≡ bytes → ReadsOne name old new → new.faults ≡ old.faults
    → IfOk r (λ conf. conf_of text ≡ Ok conf) → IfOk r IsSound → ((t : Trouble) → IsErrOf r (unfit.Trouble t) → IsTrouble t (conf_of text)) → IfErr r IsOfText → Loads old new name r
loads_text (Ok conf) old new name text bytes holds short is one faults value sound trouble of_text =
    record { fit = (sound, (bytes, holds, (short, subst (λ b. conf_of b ≡ Ok conf) is value))); read = one; faults = faults }
loads_text (Err unfit.TooLarge) old new name text bytes holds short is one faults value sound trouble of_text = absurd of_text
loads_text (Err unfit.Unread) old new name text bytes holds short is one faults value sound trouble of_text = absurd of_text
loads_text (Err (unfit.Trouble t)) old new name text bytes holds short is one faults value sound trouble of_text =
    record { fit = (bytes, holds, (short, subst (λ b. IsTrouble t (conf_of b)) is (trouble t refl))); read = one; faults = faults }
loads_text (Err unfit.Memory) old new name text bytes holds short is one faults value sound trouble of_text = record { fit = tt; read = inr one; faults = faults }

-- the words name the configuration that was read
abbrev pub named_conf : (t : Task) (words : List (List ℕ)) (old new : FilesShown) (asked : ServerWordsSeen) (conf : ConfSeen) → asked_of words ≡ Some asked → asked.task ≡ t → Loads old new asked.file (Ok conf) → HasNamed t words old.told conf
named_conf t words old new asked conf named is loads =
    let such = loads.fit.1 in
    record { asked = asked; bytes = such.0; named = named; is_asked = is; holds = such.1; short = such.2.0; reads = such.2.1 }

pub reads_well : (words : List (List ℕ)) (old new : FilesShown) (asked : ServerWordsSeen) (conf : ConfSeen) → asked_of words ≡ Some asked → Loads old new asked.file (Ok conf) → ReadsWell words old new
reads_well words old new asked conf named loads = (inr (asked.file, inl (asked, named, refl), loads.read), loads.faults)

-- no call failed but that for the file
fails_unused : (o : Outside) (asked : ServerWordsSeen) (ending : Status) → asked_of o.words ≡ Some asked → IsUnused o → ReadsOne asked.file o.files o.files_after
    → o.files_after.faults ≡ failed_reads ending o.files.faults
    → failed_listens ending o.wire.failed_listens ≡ o.wire.failed_listens → failed_nexts ending o.wire.failed_nexts ≡ o.wire.failed_nexts → FailsFor ending o
fails_unused o asked ending named unused one faults listens nexts =
    fails_read o asked.file ending (inl (asked, named, refl)) one.0 one.1 one.2 faults (ap (λ w. w.failed_listens) unused ∙ sym listens) (ap (λ w. w.failed_nexts) unused ∙ sym nexts)

-- a file that gives no configuration
pub unfit_cause : (o : Outside) (asked : ServerWordsSeen) (why : Unfit) (result : Status) → asked_of o.words ≡ Some asked → Loads o.files o.files_after asked.file (Err why)
    → SaysUnfit o.sink o.sink_after asked.file why result → IsUnused o → Cause result o
unfit_cause o asked unfit.TooLarge result named loads says unused =
    let such = loads.fit in
    off_cause o asked such.0 (too_large_text asked.file) result named such.1 (inl (such.2, refl)) unused (fails_unused o asked status.BadFile named unused loads.read loads.faults refl refl) says
unfit_cause o asked unfit.Unread result named loads says unused =
    unread_cause o asked.file result (inl (asked, named, refl)) unused (fails_unused o asked status.UnreadFile named unused loads.read loads.faults refl refl) says
unfit_cause o asked (unfit.Trouble t) result named loads says unused =
    let such = loads.fit in
    off_cause o asked such.0 (trouble_text asked.file t) result named such.1 (inr (such.2.0, t, such.2.1, refl)) unused (fails_unused o asked status.BadFile named unused loads.read loads.faults refl refl) says
unfit_cause o asked unfit.Memory result named loads says unused =
    subst (λ st. Cause st o) (sym says.0) (memory_cause o says.1 (inl unused) (record {
      file = ⊎_elim inl (λ one. inr (asked.file, inl (asked, named, refl), one)) loads.read;
      reads = loads.faults;
      listens = ap (λ w. w.failed_listens) unused;
      nexts = ap (λ w. w.failed_nexts) unused;
    }))
