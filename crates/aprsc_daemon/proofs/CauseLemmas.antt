-- From what a part of the program did to the cause of its status.
use Rattle.std.proofs.Common.{◌≡◌, ◌⊎◌, ◌||◌, ◌==◌, if◌then◌else◌, inl, inr, ℕ, ◌≤◌, ◌<◌, true, false, List, [], ◌∷◌, ◌++◌, length, refl, sym, ap, ◌∙◌, subst, append-nil, Option, Some, None, Result, Ok, Err, ⊎_elim, arith}
use Rattle.std.specs.Prelude.{nat_lt}
use Rattle.std.proofs.lemmas.Bool.{false≢true}
use Rattle.std.proofs.lemmas.Bool.Decides.{nat_tests}
use Rattle.std.specs.Option.{option_map}
use Rattle.aprs_base.specs.Outside.{Rose, Told, one_more}
use Rattle.aprs_base.specs.declared.events.Happening.TheVariants as did
use Rattle.aprs_base.specs.declared.files.FileError.{FileError}
use Rattle.aprs_base.specs.Stores.{AfterRead, FilesShown, Holds, SinkShown, bytes_named, place_named}
use Rattle.aprs_base.specs.declared.files.MemFile.{MemFile}
use Rattle.aprs_history.specs.Setting.{Setting}
use Rattle.aprs_history.specs.History.{History, trace_of}
use Rattle.aprs_history.specs.Acts.{IsRun}
use Rattle.aprs_history.specs.Headline.{HasFreshLinks}
use Rattle.aprs_history.specs.Runs.{are_listens}
use Rattle.aprs_history.proofs.EndLemmas.{links_end_by_rules}
use Rattle.aprs_history.proofs.HeadlineLemmas.{closes_have_reasons, links_take_prefixes, none_hear_themselves}
use Rattle.aprsc_daemon.specs.Runs.{RunsFor, setting_named}
use Rattle.aprs_conf.specs.Seen.{ConfSeen}
use Rattle.aprs_conf.specs.Grammar.{conf_of}
use Rattle.aprs_conf.specs.declared.errors.ConfError.{ConfError}
use Rattle.aprs_base.specs.ResultSteps.{◌>>=◌}
use Rattle.net_report.specs.Told.{text_of}
use Rattle.aprsc_daemon.specs.Phases.{Ends, Finished, Idle}
use Rattle.aprsc_daemon.specs.Saying.{Grew, listen_failed_text, unread_text, usage_text, valid_text}
use Rattle.aprsc_daemon.specs.Configuring.{IsTrouble}
use Rattle.aprsc_daemon.specs.declared.configuring.Trouble.{Trouble}
use Rattle.aprsc_daemon.specs.declared.configuring.Trouble.TheVariants as trouble
use Rattle.aprsc_daemon.specs.Asked.{AskNothing}
use Rattle.aprsc_daemon.specs.Causes.{AskDrill, Asks, BreaksOff, Cause, CountsOnce, DrillEnds, Ended, FailsFor, HasNamed, HasNoListener, HasBadScript, HasNoMemory, HasRefused, HasScript, IsDue, IsOff, IsOffScript, IsServed, IsSilent, IsUnused, KeepsPromise, NamesFile, NetEnds, Opening, OpensOnly, Outside, ReadsWell, Reports, Said, code_of_status, failed_listens, failed_nexts, failed_reads, is_before_serving, status_of}
use Rattle.aprsc_daemon.specs.Failing.{failed_by_serving}
use Rattle.aprsc_daemon.specs.Words.{NetWordsSeen, ServerWordsSeen, asked_of, drill_of, net_of}
use Rattle.aprsc_daemon.specs.Drill.{IsSummary}
use Rattle.aprsc_daemon.specs.declared.words.DrillWords.{DrillWords}
use Rattle.drill_plan.specs.declared.plan.Plan.{Plan}
use Rattle.net_script.specs.declared.errors.ScriptError.{ScriptError}
use Rattle.net_script.specs.declared.errors.ScriptError.TheVariants as script_error
use Rattle.net_script.specs.Reading.{script_of}
use Rattle.net_script.specs.Running.{script_text}
use Rattle.net_script.specs.Seen.{ScriptSeen}
use Rattle.aprsc_daemon.specs.declared.words.Task.{Task}
use Rattle.aprsc_daemon.specs.declared.words.Task.TheVariants as task
use Rattle.aprsc_daemon.specs.declared.serving.End.{End}
use Rattle.aprsc_daemon.specs.declared.serving.End.TheVariants as ended
use Rattle.aprsc_daemon.specs.declared.program.Status.{Status}
use Rattle.aprsc_daemon.specs.declared.program.Status.TheVariants as status
use Rattle.aprsc_daemon.proofs.RunLemmas.{runs_begin, runs_so}
use Rattle.aprsc_daemon.proofs.WordsLemmas.{drill_or_net, only_drill, only_net}

served_weaker : (o : Outside) (P Q : Setting → History → Type 0) → ((s : Setting) (more : History) → P s more → Q s more) → IsServed o P → IsServed o Q
served_weaker o P Q weaker served = record {
  conf = served.conf;
  read = served.read;
  run = runs_so served.conf o.wire.told o.wire_after.told (P (setting_named served.conf)) (Q (setting_named served.conf)) (weaker (setting_named served.conf)) served.run;
}

-- ---- a status that has a text

said_cause : (o : Outside) (text : List ℕ) (wanted result : Status) → Said o.sink o.sink_after text wanted result → IsDue wanted o text → FailsFor wanted o → (Reports wanted o → Cause wanted o) → Cause result o
said_cause o text wanted result said due fails cause =
    ⊎_elim
    (λ whole. subst (λ st. Cause st o) (sym whole.0) (cause (record { text = text; due = due; fails = fails; says = whole.1; taken = whole.2 })))
    (λ partly. ⊎_elim
    (λ memory. subst (λ st. Cause st o) (sym memory.0) (inr (record { wanted = wanted; text = text; due = due; fails = fails; says = memory.1 }, memory.2)))
    (λ lost. subst (λ st. Cause st o) (sym lost.0) (record { part = record { wanted = wanted; text = text; due = due; fails = fails; says = lost.1 }; failed = lost.2 }))
    partly)
    said

-- none of a text
pub grew_nothing : (told : Option (List ℕ)) → told ≡ option_map (λ text. text ++ []) told
grew_nothing None = refl
grew_nothing (Some text) = ap Some (sym (append-nil text))

pub words_cause : (o : Outside) (text : List ℕ) (result : Status) → AskNothing o.words → IsUnused o → FailsFor status.BadWords o → text ≡ usage_text → Said o.sink o.sink_after text status.BadWords result → Cause result o
words_cause o text result bad unused fails line said =
    said_cause o text status.BadWords result said (record { bad = bad; unused = unused; line = line }) fails (λ reports. reports)

pub drill_cause : (o : Outside) (asked : DrillWords) (text : List ℕ) (result : Status) → drill_of o.words ≡ Some asked → IsUnused o → FailsFor status.Drilled o → IsSummary asked.plan text
    → Said o.sink o.sink_after text status.Drilled result → Cause result o
drill_cause o asked text result named unused fails summary said =
    said_cause o text status.Drilled result said (record { asked = asked; named = named; unused = unused; summary = summary }) fails (λ reports. reports)

-- how a drill ends, by what was said
pub drill_ends : (plan : Plan) (old new : SinkShown) (text : List ℕ) (result : Status) → IsSummary plan text → Said old new text status.Drilled result → DrillEnds (code_of_status result) plan old new
drill_ends plan old new text result summary said =
    ⊎_elim
    (λ whole. inl (ap code_of_status whole.0, text, summary, whole.1))
    (λ partly. ⊎_elim
    (λ memory. inr (inl (ap code_of_status memory.0)))
    (λ lost. inr (inr (ap code_of_status lost.0, lost.2)))
    partly)
    said

pub off_cause : (o : Outside) (asked : ServerWordsSeen) (bytes text : List ℕ) (result : Status) → asked_of o.words ≡ Some asked → Holds o.files.told asked.file bytes → IsOff asked.file bytes text
    → IsUnused o → FailsFor status.BadFile o → Said o.sink o.sink_after text status.BadFile result → Cause result o
off_cause o asked bytes text result named holds off unused fails said =
    said_cause o text status.BadFile result said
    (record { read = inl (record { asked = asked; bytes = bytes; named = named; holds = holds; off = off }); unused = unused })
    fails
    (λ reports. reports)

pub off_script_cause : (o : Outside) (asked : NetWordsSeen) (bytes text : List ℕ) (result : Status) → net_of o.words ≡ Some asked → Holds o.files.told asked.file bytes → IsOffScript asked.file bytes text
    → IsUnused o → FailsFor status.BadFile o → Said o.sink o.sink_after text status.BadFile result → Cause result o
off_script_cause o asked bytes text result named holds off unused fails said =
    said_cause o text status.BadFile result said
    (record { read = inr (record { asked = asked; bytes = bytes; named = named; holds = holds; off = off }); unused = unused })
    fails
    (λ reports. reports)

pub script_cause : (o : Outside) (script : ScriptSeen) (text : List ℕ) (result : Status) → HasScript o.words o.files.told script → text ≡ script_text script
    → IsUnused o → FailsFor status.Reported o → Said o.sink o.sink_after text status.Reported result → Cause result o
script_cause o script text result read line unused fails said =
    said_cause o text status.Reported result said
    (record { script = script; read = read; unused = unused; line = line })
    fails
    (λ reports. reports)

pub unread_cause : (o : Outside) (file : List ℕ) (result : Status) → NamesFile o.words file
    → IsUnused o → FailsFor status.UnreadFile o → Said o.sink o.sink_after (unread_text file) status.UnreadFile result → Cause result o
unread_cause o file result named unused fails said =
    said_cause o (unread_text file) status.UnreadFile result said
    (record { file = file; named = named; unused = unused; line = refl })
    fails
    (λ reports. reports)

pub valid_cause : (o : Outside) (conf : ConfSeen) (result : Status) → (read : HasNamed task.Check o.words o.files.told conf) → IsUnused o → FailsFor status.Checked o
    → Said o.sink o.sink_after (valid_text read.asked.file) status.Checked result → Cause result o
valid_cause o conf result read unused fails said =
    said_cause o (valid_text read.asked.file) status.Checked result said
    (record { conf = conf; read = read; unused = unused; line = refl })
    fails
    (λ reports. reports)

pub listener_cause : (o : Outside) (conf : ConfSeen) (n : ℕ) (result : Status) → HasNamed task.Serve o.words o.files.told conf → n < length (setting_named conf).listens → FailsFor status.NoListener o
    → RunsFor conf o.wire.told o.wire_after.told (OpensOnly n) → Said o.sink o.sink_after (listen_failed_text n) status.NoListener result → Cause result o
listener_cause o conf n result read within fails run said =
    said_cause o (listen_failed_text n) status.NoListener result said
    (record { number = n; run = record { conf = conf; read = read; run = run }; within = within; line = refl })
    fails
    (λ reports. reports)

-- ---- a status without a text

pub memory_cause : (o : Outside) → IsSilent o → IsUnused o ⊎ IsServed o (λ s. HasFreshLinks) → FailsFor status.NoMemory o → HasNoMemory o
memory_cause o silent left fails = inl (record { run = left; fails = fails; silent = silent })

-- what a read did, by the error that it gave
pub read_as : {T : Type 0} {old new : FilesShown} {name : List ℕ} {limit : ℕ} {before after : List ℕ} (e f : FileError) → e ≡ f
    → AfterRead {T = T} old new name limit before after (Err e) → AfterRead {T = T} old new name limit before after (Err f)
read_as {T = T} {old = old} {new = new} {name = name} {limit = limit} {before = before} {after = after} e f is read = subst (λ x. AfterRead {T = T} old new name limit before after (Err x)) is read

-- one read of the named file, and no call of the wire
pub fails_read : (o : Outside) (file : List ℕ) (ending : Status) → NamesFile o.words file → o.files_after.told ≡ o.files.told
    → o.files_after.last ≡ place_named file o.files.told → o.files_after.reads ≡ one_more o.files.reads → o.files_after.faults ≡ failed_reads ending o.files.faults
    → o.wire_after.failed_listens ≡ failed_listens ending o.wire.failed_listens → o.wire_after.failed_nexts ≡ failed_nexts ending o.wire.failed_nexts → FailsFor ending o
fails_read o file ending named told last reads faults listens nexts = record {
  file = inr (file, named, (told, last, reads));
  reads = faults;
  listens = listens;
  nexts = nexts;
}

-- what ended by serving
pub ended_serving : (end : End) → is_before_serving (code_of_status (status_of end)) ≡ false
ended_serving ended.Stopped = refl
ended_serving ended.Failed = refl
ended_serving ended.Memory = refl

pub ended_cause : (o : Outside) (conf : ConfSeen) (end : End) (result : Status) → result ≡ status_of end → HasNamed task.Serve o.words o.files.told conf → ReadsWell o.words o.files o.files_after → IsSilent o
    → o.wire_after.failed_listens ≡ o.wire.failed_listens → o.wire_after.failed_nexts ≡ failed_by_serving end o.wire.failed_nexts
    → RunsFor conf o.wire.told o.wire_after.told (Ends (setting_named conf) end) → Cause result o
ended_cause o conf end result is read well silent listens nexts run = subst (λ st. Cause st o) (sym is) (causes end nexts run)
  where
    causes : (end : End) → o.wire_after.failed_nexts ≡ failed_by_serving end o.wire.failed_nexts → RunsFor conf o.wire.told o.wire_after.told (Ends (setting_named conf) end) → Cause (status_of end) o
    causes ended.Stopped nexts run = record { run = record { conf = conf; read = read; run = run }; fails = record { file = well.0; reads = well.1; listens = listens; nexts = nexts }; silent = silent }
    causes ended.Failed nexts run = record { run = record { conf = conf; read = read; run = run }; fails = record { file = well.0; reads = well.1; listens = listens; nexts = nexts }; silent = silent }
    causes ended.Memory nexts run = memory_cause o silent (inr (record { conf = conf; read = read; run = run })) (record { file = well.0; reads = well.1; listens = listens; nexts = nexts })

-- ---- files that tell their bytes

at_files : (t : Task) (o : Outside) (files : List MemFile) (conf : ConfSeen) → o.files.told ≡ Some files → HasNamed t o.words o.files.told conf → HasNamed t o.words (Some files) conf
at_files t o files conf tells read = subst (λ told. HasNamed t o.words told conf) tells read

pub some_same : {X : Type 0} (r : Option X) (m n : X) → r ≡ Some m → r ≡ Some n → m ≡ n
some_same r m n e f = cc

pub ok_same : (r : Result ConfSeen ConfError) (m n : ConfSeen) → r ≡ Ok m → r ≡ Ok n → m ≡ n
ok_same r m n e f = cc

-- the words name one file, and it has one text
same_bytes : (words : List (List ℕ)) (files : List MemFile) (this that : ServerWordsSeen) (here there : List ℕ) → asked_of words ≡ Some this → asked_of words ≡ Some that
    → bytes_named this.file files ≡ Some here → bytes_named that.file files ≡ Some there → here ≡ there
same_bytes words files this that here there named named_too holds holds_too =
    some_same (bytes_named that.file files) here there (ap (λ asked. bytes_named asked.file files) (sym (some_same (asked_of words) this that named named_too)) ∙ holds) holds_too

same_conf : (words : List (List ℕ)) (files : List MemFile) (a b : ConfSeen) → HasNamed task.Serve words (Some files) a → HasNamed task.Serve words (Some files) b → a ≡ b
same_conf words files a b x y =
    let same = same_bytes words files x.asked y.asked x.bytes y.bytes x.named y.named x.holds y.holds in
    ok_same (conf_of y.bytes) a b (ap conf_of (sym same) ∙ x.reads) y.reads

no_trouble : (t : Trouble) (said : Result ConfSeen ConfError) (conf : ConfSeen) → said ≡ Ok conf → IsTrouble t said → ⊥
no_trouble (trouble.Line n f) said conf reads is = cc
no_trouble (trouble.Missing w) said conf reads is = cc

-- no file is both a configuration and off
not_both : (t : Task) (words : List (List ℕ)) (files : List MemFile) (conf : ConfSeen) (text : List ℕ) → HasNamed t words (Some files) conf → HasRefused words (Some files) text → ⊥
not_both t words files conf text read refused =
    let same = same_bytes words files read.asked refused.asked read.bytes refused.bytes read.named refused.named read.holds refused.holds in
    let short : length refused.bytes ≤ 65536 = subst (λ bytes. length bytes ≤ 65536) same read.short in
    ⊎_elim
    (λ big. absurd (omega (arith, big.0)))
    (λ off. no_trouble off.1 (conf_of refused.bytes) conf (ap conf_of (sym same) ∙ read.reads) off.2)
    refused.off

pub not_named : (words : List (List ℕ)) (asked : ServerWordsSeen) → asked_of words ≡ None → asked_of words ≡ Some asked → ⊥
not_named words asked bad named = cc

-- no words ask for a drill and for the server
pub not_both_modes : (words : List (List ℕ)) (drill : DrillWords) (asked : ServerWordsSeen) → drill_of words ≡ Some drill → asked_of words ≡ Some asked → ⊥
not_both_modes words drill asked drilled named = not_named words asked (only_drill words drill drilled) named

not_drilled : (words : List (List ℕ)) (drill : DrillWords) → drill_of words ≡ None → drill_of words ≡ Some drill → ⊥
not_drilled words drill none drilled = cc

-- nor for a network and for anything else
pub not_net_too : (words : List (List ℕ)) (net : NetWordsSeen) (asked : ServerWordsSeen) → net_of words ≡ Some net → asked_of words ≡ Some asked → ⊥
not_net_too words net asked is named = not_named words asked (only_net words net is) named

pub not_net_and_drill : (words : List (List ℕ)) (net : NetWordsSeen) (drill : DrillWords) → net_of words ≡ Some net → drill_of words ≡ Some drill → ⊥
not_net_and_drill words net drill is drilled = not_drilled words drill (drill_or_net words net is) drilled

not_networked : (words : List (List ℕ)) (net : NetWordsSeen) → net_of words ≡ None → net_of words ≡ Some net → ⊥
not_networked words net none is = cc

-- words that name a file ask for the server or for a network
named_too : (words : List (List ℕ)) (file : List ℕ) → NamesFile words file → ((asked : ServerWordsSeen) → asked_of words ≡ Some asked → ⊥) → ((asked : NetWordsSeen) → net_of words ≡ Some asked → ⊥) → ⊥
named_too words file names no_server no_net = ⊎_elim (λ server. no_server server.0 server.1) (λ net. no_net net.0 net.1) names

-- where the named file holds a configuration, it isn't bad
not_off : (t : Task) (o : Outside) (files : List MemFile) (conf : ConfSeen) (text : List ℕ) → o.files.told ≡ Some files → HasNamed t o.words o.files.told conf
    → HasRefused o.words o.files.told text ⊎ HasBadScript o.words o.files.told text → ⊥
not_off t o files conf text tells read =
    ⊎_elim
    (λ refused. not_both t o.words files conf text (at_files t o files conf tells read) (subst (λ told. HasRefused o.words told text) tells refused))
    (λ bad. not_net_too o.words bad.asked read.asked bad.named read.named)

-- no words ask for a run and for a check
one_task : (words : List (List ℕ)) (told : Option (List MemFile)) (a b : ConfSeen) → HasNamed task.Serve words told a → HasNamed task.Check words told b → ⊥
one_task words told a b x y =
    let asked : x.asked ≡ y.asked = some_same (asked_of words) x.asked y.asked x.named y.named in
    let tasks : task.Serve ≡ task.Check = sym x.is_asked ∙ (ap (λ asked. asked.task) asked ∙ y.is_asked) in
    cc

-- one failure more is a rise
rose_once : (before now : ℕ) → now ≡ one_more before → Rose before now
rose_once before now is = omega (arith, is)

-- a text that is due where the files hold a configuration, and didn't fail, is the line on a listener
due_listener : (wanted : Status) (o : Outside) (files : List MemFile) (conf : ConfSeen) (text : List ℕ) → o.files.told ≡ Some files → HasNamed task.Serve o.words o.files.told conf
    → ¬ Rose o.files.faults o.files_after.faults → FailsFor wanted o → IsDue wanted o text → HasNoListener o text
due_listener status.Checked o files conf text tells read sound fails due = absurd (one_task o.words o.files.told conf due.conf read due.read)
due_listener status.Drilled o files conf text tells read sound fails due = absurd (not_both_modes o.words due.asked read.asked due.named read.named)
due_listener status.Reported o files conf text tells read sound fails due = absurd (not_net_too o.words due.read.asked read.asked due.read.named read.named)
due_listener status.BadWords o files conf text tells read sound fails due = absurd (not_named o.words read.asked due.bad.no_server read.named)
due_listener status.BadFile o files conf text tells read sound fails due = absurd (not_off task.Serve o files conf text tells read due.read)
due_listener status.UnreadFile o files conf text tells read sound fails due = absurd (sound (rose_once _ _ fails.reads))
due_listener status.NoListener o files conf text tells read sound fails due = due
due_listener _ o files conf text tells read sound fails due = absurd due

-- ---- the headline

unused_run : (o : Outside) (conf : ConfSeen) (P : History → Type 0) → P [] → IsUnused o → RunsFor conf o.wire.told o.wire_after.told P
unused_run o conf P begins unused = subst (λ told. RunsFor conf o.wire.told told P) (sym (ap (λ wire. wire.told) unused)) (runs_begin conf o.wire.told P begins)

served_run : (o : Outside) (files : List MemFile) (conf : ConfSeen) (P : Setting → History → Type 0) → o.files.told ≡ Some files → HasNamed task.Serve o.words o.files.told conf → IsServed o P
    → RunsFor conf o.wire.told o.wire_after.told (P (setting_named conf))
served_run o files conf P tells read served =
    let same = same_conf o.words files served.conf conf (at_files task.Serve o files served.conf tells served.read) (at_files task.Serve o files conf tells read) in
    subst (λ c. RunsFor c o.wire.told o.wire_after.told (P (setting_named c))) same served.run

-- where nothing but listeners was opened, no link was numbered
listens_fresh : (more : History) → are_listens more ≡ true → HasFreshLinks more
listens_fresh [] only = tt
listens_fresh (did.Listen n ∷ more) only = listens_fresh more only
listens_fresh (_ ∷ more) only = absurd (false≢true only)

-- a run of which the end says no more
goes_on : (o : Outside) (files : List MemFile) (conf : ConfSeen) (code : ℕ) → (code ≡ 0 → ⊥) → (code ≡ 5 → ⊥) → o.files.told ≡ Some files → HasNamed task.Serve o.words o.files.told conf
    → IsUnused o ⊎ IsServed o (λ s. HasFreshLinks) → RunsFor conf o.wire.told o.wire_after.told (Ended code (setting_named conf))
goes_on o files conf code not_0 not_5 tells read =
    ⊎_elim
    (unused_run o conf (Ended code (setting_named conf)) (ends (setting_named conf) [] tt))
    (λ served. served_run o files conf (Ended code) tells read (served_weaker o (λ s. HasFreshLinks) (Ended code) ends served))
  where
    ends : (s : Setting) (more : History) → HasFreshLinks more → Ended code s more
    ends s more fresh = record { fresh = fresh; stopped = λ e. absurd (not_0 e); lost = λ e. absurd (not_5 e) }

opens_some : (o : Outside) (text : List ℕ) → HasNoListener o text → IsServed o Opening
opens_some o text due =
    let s = setting_named due.run.conf in
    record {
      conf = due.run.conf;
      read = due.run.read;
      run = runs_so due.run.conf o.wire.told o.wire_after.told (OpensOnly due.number) (Opening s) (λ more opens. subst (λ m. m < length s.listens) (sym opens.0) due.within) due.run.run;
    }

-- where a text is due nothing happened, or listeners alone were opened
due_run : (wanted : Status) (o : Outside) (text : List ℕ) → IsDue wanted o text → IsUnused o ⊎ IsServed o (λ s. HasFreshLinks)
due_run status.Stopped o text due = absurd due
due_run status.NoListener o text due = inr (served_weaker o (λ s. OpensOnly due.number) (λ s. HasFreshLinks) (λ s more opens. listens_fresh more opens.1) due.run)
due_run status.LostWire o text due = absurd due
due_run status.NoMemory o text due = absurd due
due_run status.LostSink o text due = absurd due
due_run _ o text due = inl due.unused

-- and so the end says nothing
due_ended : (wanted : Status) (o : Outside) (text : List ℕ) (files : List MemFile) (conf : ConfSeen) (code : ℕ) → (code ≡ 0 → ⊥) → (code ≡ 5 → ⊥) → o.files.told ≡ Some files
    → HasNamed task.Serve o.words o.files.told conf → IsDue wanted o text → RunsFor conf o.wire.told o.wire_after.told (Ended code (setting_named conf))
due_ended wanted o text files conf code not_0 not_5 tells read due =
    goes_on o files conf code not_0 not_5 tells read (due_run wanted o text due)

pub headline : (o : Outside) (files : List MemFile) (conf : ConfSeen) (ending : Status) → o.files.told ≡ Some files → HasNamed task.Serve o.words o.files.told conf → Cause ending o
    → RunsFor conf o.wire.told o.wire_after.told (Ended (code_of_status ending) (setting_named conf))
headline o files conf status.Stopped tells read cause =
    served_run o files conf (Ended 0) tells read (served_weaker o Finished (Ended 0) (λ s more at. record { fresh = at.idle.fresh; stopped = λ e. at; lost = λ e. absurd (omega arith) }) cause.run)
headline o files conf status.Checked tells read cause = absurd (one_task o.words o.files.told conf cause.due.conf read cause.due.read)
headline o files conf status.Drilled tells read cause = absurd (not_both_modes o.words cause.due.asked read.asked cause.due.named read.named)
headline o files conf status.Reported tells read cause = absurd (not_net_too o.words cause.due.read.asked read.asked cause.due.read.named read.named)
headline o files conf status.LostWire tells read cause =
    served_run o files conf (Ended 5) tells read (served_weaker o Idle (Ended 5) (λ s more at. record { fresh = at.fresh; stopped = λ e. absurd (omega arith); lost = λ e. at }) cause.run)
headline o files conf status.NoMemory tells read cause =
    ⊎_elim
    (λ short. goes_on o files conf 6 (λ e. omega arith) (λ e. omega arith) tells read short.run)
    (λ part. due_ended part.0.wanted o part.0.text files conf 6 (λ e. omega arith) (λ e. omega arith) tells read part.0.due)
    cause
headline o files conf status.LostSink tells read cause =
    due_ended cause.part.wanted o cause.part.text files conf 7 (λ e. omega arith) (λ e. omega arith) tells read cause.part.due
headline o files conf wanted tells read cause =
    due_ended wanted o cause.text files conf (code_of_status wanted) (λ e. omega arith) (λ e. omega arith) tells read cause.due

-- a run whose links were numbered freshly keeps its promise
pub keeps_promise : (conf : ConfSeen) (start now : Option Told) (code : ℕ) → RunsFor conf start now (Ended code (setting_named conf)) → RunsFor conf start now (KeepsPromise (setting_named conf))
keeps_promise conf None now code run = run
keeps_promise conf (Some told) now code run =
    let s = setting_named conf in
    let serves = run.2 in
    let seen = serves.1 in (
      run.0,
      run.1,
      (
        serves.0,
        seen,
        serves.2,
        serves.3,
        serves.4,
        record {
          takes = links_take_prefixes s seen serves.4 serves.5.fresh;
          others = none_hear_themselves s (trace_of s seen);
          ends = links_end_by_rules s seen;
          closes = λ later earlier link is. closes_have_reasons s later earlier link (subst (IsRun s) is serves.4);
        },
      ),
    )

-- ---- the sink fails early

pub early : (o : Outside) (files : List MemFile) (conf : ConfSeen) (ending : Status) → o.files.told ≡ Some files → HasNamed task.Serve o.words o.files.told conf
    → ¬ Rose o.files.faults o.files_after.faults → code_of_status ending ≡ 7 → Cause ending o
    → RunsFor conf o.wire.told o.wire_after.told (Opening (setting_named conf))
early o files conf status.LostSink tells read sound is cause =
    served_run o files conf Opening tells read (opens_some o cause.part.text (due_listener cause.part.wanted o files conf cause.part.text tells read sound cause.part.fails cause.part.due))
early o files conf _ tells read sound is cause = absurd (omega arith)

-- ---- completeness

words_asked : (o : Outside) (ending : Status) → AskNothing o.words → ¬ Rose o.sink.faults o.sink_after.faults → Cause ending o
    → (code_of_status ending ≡ 1) ⊎ (code_of_status ending ≡ 6)
words_asked o ending bad taken = by ending
  where
    no_server : (asked : ServerWordsSeen) → asked_of o.words ≡ Some asked → ⊥
    no_server asked named = not_named o.words asked bad.no_server named

    no_net : (asked : NetWordsSeen) → net_of o.words ≡ Some asked → ⊥
    no_net asked named = not_networked o.words asked bad.no_net named

    by : (ending : Status) → Cause ending o → (code_of_status ending ≡ 1) ⊎ (code_of_status ending ≡ 6)
    by status.Stopped cause = absurd (no_server cause.run.read.asked cause.run.read.named)
    by status.Checked cause = absurd (no_server cause.due.read.asked cause.due.read.named)
    by status.Drilled cause = absurd (not_drilled o.words cause.due.asked bad.no_drill cause.due.named)
    by status.Reported cause = absurd (no_net cause.due.read.asked cause.due.read.named)
    by status.BadWords cause = inl refl
    by status.BadFile cause = absurd (⊎_elim (λ refused. no_server refused.asked refused.named) (λ bad. no_net bad.asked bad.named) cause.due.read)
    by status.UnreadFile cause = absurd (named_too o.words cause.due.file cause.due.named no_server no_net)
    by status.NoListener cause = absurd (no_server cause.due.run.read.asked cause.due.run.read.named)
    by status.LostWire cause = absurd (no_server cause.run.read.asked cause.run.read.named)
    by status.NoMemory cause = inr refl
    by status.LostSink cause = absurd (taken (rose_once _ _ cause.failed))

drill_asked : (o : Outside) (asked : DrillWords) (ending : Status) → drill_of o.words ≡ Some asked → ¬ Rose o.sink.faults o.sink_after.faults → Cause ending o
    → (code_of_status ending ≡ 0) ⊎ (code_of_status ending ≡ 6)
drill_asked o drill ending drilled taken = by ending
  where
    no_server : (asked : ServerWordsSeen) → asked_of o.words ≡ Some asked → ⊥
    no_server asked named = not_both_modes o.words drill asked drilled named

    no_net : (asked : NetWordsSeen) → net_of o.words ≡ Some asked → ⊥
    no_net asked named = not_net_and_drill o.words asked drill named drilled

    by : (ending : Status) → Cause ending o → (code_of_status ending ≡ 0) ⊎ (code_of_status ending ≡ 6)
    by status.BadWords cause = absurd (not_drilled o.words drill cause.due.bad.no_drill drilled)
    by status.BadFile cause = absurd (⊎_elim (λ refused. no_server refused.asked refused.named) (λ bad. no_net bad.asked bad.named) cause.due.read)
    by status.UnreadFile cause = absurd (named_too o.words cause.due.file cause.due.named no_server no_net)
    by status.NoListener cause = absurd (no_server cause.due.run.read.asked cause.due.run.read.named)
    by status.LostWire cause = absurd (no_server cause.run.read.asked cause.run.read.named)
    by status.NoMemory cause = inr refl
    by status.LostSink cause = absurd (taken (rose_once _ _ cause.failed))
    by _ cause = inl refl

served_not_off : (o : Outside) (files : List MemFile) (text : List ℕ) (P : Setting → History → Type 0) → o.files.told ≡ Some files → HasRefused o.words (Some files) text → IsServed o P → ⊥
served_not_off o files text P tells refused served = not_both task.Serve o.words files served.conf text (at_files task.Serve o files served.conf tells served.read) refused

file_asked : (o : Outside) (files : List MemFile) (text : List ℕ) (ending : Status) → o.files.told ≡ Some files → HasRefused o.words (Some files) text
    → ¬ Rose o.files.faults o.files_after.faults → ¬ Rose o.sink.faults o.sink_after.faults → Cause ending o
    → (code_of_status ending ≡ 2) ⊎ (code_of_status ending ≡ 6)
file_asked o files text status.Stopped tells refused sound taken cause = absurd (served_not_off o files text Finished tells refused cause.run)
file_asked o files text status.Checked tells refused sound taken cause =
    absurd (not_both task.Check o.words files cause.due.conf text (at_files task.Check o files cause.due.conf tells cause.due.read) refused)
file_asked o files text status.Drilled tells refused sound taken cause = absurd (not_both_modes o.words cause.due.asked refused.asked cause.due.named refused.named)
file_asked o files text status.Reported tells refused sound taken cause = absurd (not_net_too o.words cause.due.read.asked refused.asked cause.due.read.named refused.named)
file_asked o files text status.BadWords tells refused sound taken cause = absurd (not_named o.words refused.asked cause.due.bad.no_server refused.named)
file_asked o files text status.BadFile tells refused sound taken cause = inl refl
file_asked o files text status.UnreadFile tells refused sound taken cause = absurd (sound (rose_once _ _ cause.fails.reads))
file_asked o files text status.NoListener tells refused sound taken cause = absurd (served_not_off o files text (λ s. OpensOnly cause.due.number) tells refused cause.due.run)
file_asked o files text status.LostWire tells refused sound taken cause = absurd (served_not_off o files text Idle tells refused cause.run)
file_asked o files text status.NoMemory tells refused sound taken cause = inr refl
file_asked o files text status.LostSink tells refused sound taken cause = absurd (taken (rose_once _ _ cause.failed))

conf_asked : (t : Task) (o : Outside) (files : List MemFile) (conf : ConfSeen) (ending : Status) → o.files.told ≡ Some files → HasNamed t o.words o.files.told conf
    → ¬ Rose o.files.faults o.files_after.faults → ¬ Rose o.wire.failed_listens o.wire_after.failed_listens → ¬ Rose o.wire.failed_nexts o.wire_after.failed_nexts → ¬ Rose o.sink.faults o.sink_after.faults → Cause ending o
    → (code_of_status ending ≡ 0) ⊎ (code_of_status ending ≡ 6)
conf_asked t o files conf status.BadWords tells read sound listening going taken cause = absurd (not_named o.words read.asked cause.due.bad.no_server read.named)
conf_asked t o files conf status.BadFile tells read sound listening going taken cause = absurd (not_off t o files conf cause.text tells read cause.due.read)
conf_asked t o files conf status.UnreadFile tells read sound listening going taken cause = absurd (sound (rose_once _ _ cause.fails.reads))
conf_asked t o files conf status.NoListener tells read sound listening going taken cause = absurd (listening (rose_once _ _ cause.fails.listens))
conf_asked t o files conf status.LostWire tells read sound listening going taken cause = absurd (going (rose_once _ _ cause.fails.nexts))
conf_asked t o files conf status.NoMemory tells read sound listening going taken cause = inr refl
conf_asked t o files conf status.LostSink tells read sound listening going taken cause = absurd (taken (rose_once _ _ cause.failed))
conf_asked t o files conf _ tells read sound listening going taken cause = inl refl

-- ---- networks

-- a file with more bytes than a script may have
pub too_large_script : (bytes : List ℕ) → 65536 < length bytes → script_of bytes ≡ Err script_error.TooLarge
unfolding script_of
too_large_script bytes big = (let is : nat_lt 65536 (length bytes) ≡ true = grind (arith, nat_tests, big) in rw is refl)

-- a text that was made of a script's text
pub told_script : (bytes text : List ℕ) → text_of bytes ≡ Ok text → (script : ScriptSeen) × (script_of bytes ≡ Ok script) × (text ≡ script_text script)
told_script bytes text told = by (script_of bytes) refl told
  where
    by : (said : Result ScriptSeen ScriptError) → script_of bytes ≡ said → (said >>= λ script. Ok (script_text script)) ≡ Ok text → (script : ScriptSeen) × (script_of bytes ≡ Ok script) × (text ≡ script_text script)
    by (Ok script) is made = (script, is, let same : script_text script ≡ text = cc in sym same)
    by (Err e) is made = cc

-- and what is wrong with it
pub told_fault : (bytes : List ℕ) (e : ScriptError) → text_of bytes ≡ Err e → script_of bytes ≡ Err e
told_fault bytes e told = by (script_of bytes) told
  where
    by : (said : Result ScriptSeen ScriptError) → (said >>= λ script. Ok (script_text script)) ≡ Err e → said ≡ Err e
    by (Ok script) made = cc
    by (Err f) made = let same : f ≡ e = cc in ap Err same

-- no file is both a script and off
script_or_fault : (bytes text file : List ℕ) (script : ScriptSeen) → script_of bytes ≡ Ok script → IsOffScript file bytes text → ⊥
script_or_fault bytes text file script reads =
    ⊎_elim
    (λ big. fault (script_of bytes) script_error.TooLarge reads big.0)
    (λ bad. fault (script_of bytes) (script_error.BadStep bad.0) reads bad.1)
  where
    fault : (said : Result ScriptSeen ScriptError) (e : ScriptError) → said ≡ Ok script → said ≡ Err e → ⊥
    fault said e good bad = cc

not_both_scripts : (words : List (List ℕ)) (files : List MemFile) (script : ScriptSeen) (text : List ℕ) → HasScript words (Some files) script → HasBadScript words (Some files) text → ⊥
not_both_scripts words files script text read bad =
    let asked = some_same (net_of words) read.asked bad.asked read.named bad.named in
    let same : read.bytes ≡ bad.bytes = some_same (bytes_named bad.asked.file files) read.bytes bad.bytes (ap (λ (asked : NetWordsSeen). bytes_named asked.file files) (sym asked) ∙ read.holds) bad.holds in
    script_or_fault bad.bytes text bad.asked.file script (ap script_of (sym same) ∙ read.reads) bad.off

-- what the words of a network may end with: the status for a script, that for a bad one, or that for want of memory
by_network : (o : Outside) (asked : NetWordsSeen) (code : ℕ) (ending : Status) → net_of o.words ≡ Some asked
    → ¬ Rose o.files.faults o.files_after.faults → ¬ Rose o.sink.faults o.sink_after.faults
    → ((text : List ℕ) (script : ScriptSeen) → HasScript o.words o.files.told script → code ≡ 0)
    → ((text : List ℕ) → HasBadScript o.words o.files.told text → code ≡ 2)
    → Cause ending o → (code_of_status ending ≡ code) ⊎ (code_of_status ending ≡ 6)
by_network o net code ending is sound taken good off = by ending
  where
    no_server : (asked : ServerWordsSeen) → asked_of o.words ≡ Some asked → ⊥
    no_server asked named = not_net_too o.words net asked is named

    by : (ending : Status) → Cause ending o → (code_of_status ending ≡ code) ⊎ (code_of_status ending ≡ 6)
    by status.Stopped cause = absurd (no_server cause.run.read.asked cause.run.read.named)
    by status.Checked cause = absurd (no_server cause.due.read.asked cause.due.read.named)
    by status.Drilled cause = absurd (not_net_and_drill o.words net cause.due.asked is cause.due.named)
    by status.Reported cause = inl (sym (good cause.text cause.due.script cause.due.read))
    by status.BadWords cause = absurd (not_networked o.words net cause.due.bad.no_net is)
    by status.BadFile cause = ⊎_elim (λ refused. absurd (no_server refused.asked refused.named)) (λ bad. inl (sym (off cause.text bad))) cause.due.read
    by status.UnreadFile cause = absurd (sound (rose_once _ _ cause.fails.reads))
    by status.NoListener cause = absurd (no_server cause.due.run.read.asked cause.due.run.read.named)
    by status.LostWire cause = absurd (no_server cause.run.read.asked cause.run.read.named)
    by status.NoMemory cause = inr refl
    by status.LostSink cause = absurd (taken (rose_once _ _ cause.failed))

script_asked : (o : Outside) (files : List MemFile) (script : ScriptSeen) (ending : Status) → o.files.told ≡ Some files → HasScript o.words (Some files) script
    → ¬ Rose o.files.faults o.files_after.faults → ¬ Rose o.sink.faults o.sink_after.faults → Cause ending o
    → (code_of_status ending ≡ 0) ⊎ (code_of_status ending ≡ 6)
script_asked o files script ending tells read sound taken cause =
    by_network o read.asked 0 ending read.named sound taken
    (λ text other has. refl)
    (λ text bad. absurd (not_both_scripts o.words files script text read (subst (λ told. HasBadScript o.words told text) tells bad)))
    cause

bad_script_asked : (o : Outside) (files : List MemFile) (text : List ℕ) (ending : Status) → o.files.told ≡ Some files → HasBadScript o.words (Some files) text
    → ¬ Rose o.files.faults o.files_after.faults → ¬ Rose o.sink.faults o.sink_after.faults → Cause ending o
    → (code_of_status ending ≡ 2) ⊎ (code_of_status ending ≡ 6)
bad_script_asked o files text ending tells bad sound taken cause =
    by_network o bad.asked 2 ending bad.named sound taken
    (λ other script has. absurd (not_both_scripts o.words files script text (subst (λ told. HasScript o.words told script) tells has) bad))
    (λ other is. refl)
    cause

pub complete : (o : Outside) (code : ℕ) (ending : Status) → Asks o.words o.files.told code
    → ¬ Rose o.files.faults o.files_after.faults → ¬ Rose o.wire.failed_listens o.wire_after.failed_listens → ¬ Rose o.wire.failed_nexts o.wire_after.failed_nexts → ¬ Rose o.sink.faults o.sink_after.faults → Cause ending o
    → (code_of_status ending ≡ code) ⊎ (code_of_status ending ≡ 6)
complete o code ending asks sound listening going taken cause = answers o.files.told refl asks
  where
    is_code : (wanted : ℕ) → code ≡ wanted → (code_of_status ending ≡ wanted) ⊎ (code_of_status ending ≡ 6) → (code_of_status ending ≡ code) ⊎ (code_of_status ending ≡ 6)
    is_code wanted is asked = subst (λ n. (code_of_status ending ≡ n) ⊎ (code_of_status ending ≡ 6)) (sym is) asked

    by_words : (code ≡ 1) × AskNothing o.words → (code_of_status ending ≡ code) ⊎ (code_of_status ending ≡ 6)
    by_words words = is_code 1 words.0 (words_asked o ending words.1 taken cause)

    by_drill : (code ≡ 0) × AskDrill o.words → (code_of_status ending ≡ code) ⊎ (code_of_status ending ≡ 6)
    by_drill drill = is_code 0 drill.0 (let asks = drill.1 in drill_asked o asks.0 ending asks.1 taken cause)

    answers : (told : Option (List MemFile)) → o.files.told ≡ told → Asks o.words told code → (code_of_status ending ≡ code) ⊎ (code_of_status ending ≡ 6)
    answers None tells asks = ⊎_elim by_words by_drill asks
    answers (Some files) tells asks =
        ⊎_elim by_words
        (λ good. ⊎_elim
        (λ file. is_code 2 file.0 (file_asked o files file.1 ending tells file.2 sound taken cause))
        (λ other. ⊎_elim
        (λ named. is_code 0 named.0 (conf_asked named.1 o files named.2 ending tells (subst (λ told. HasNamed named.1 o.words told named.2) (sym tells) named.3) sound listening going taken cause))
        (λ modes. ⊎_elim by_drill
        (λ net. ⊎_elim
        (λ bad. is_code 2 bad.0 (bad_script_asked o files bad.1 ending tells bad.2 sound taken cause))
        (λ script. is_code 0 script.0 (script_asked o files script.1 ending tells script.2 sound taken cause))
        net)
        modes)
        other)
        good)
        asks

-- ---- how a network ends

pub net_ends : (o : Outside) (net : NetWordsSeen) (ending : Status) → net_of o.words ≡ Some net → Cause ending o → NetEnds (code_of_status ending) net.file o.files.told o.sink o.sink_after
net_ends o net ending is = by ending
  where
    no_server : (asked : ServerWordsSeen) → asked_of o.words ≡ Some asked → ⊥
    no_server asked named = not_net_too o.words net asked is named

    same : (asked : NetWordsSeen) → net_of o.words ≡ Some asked → asked.file ≡ net.file
    same asked named = ap (λ (a : NetWordsSeen). a.file) (some_same (net_of o.words) asked net named is)

    by : (ending : Status) → Cause ending o → NetEnds (code_of_status ending) net.file o.files.told o.sink o.sink_after
    by status.Stopped cause = absurd (no_server cause.run.read.asked cause.run.read.named)
    by status.Checked cause = absurd (no_server cause.due.read.asked cause.due.read.named)
    by status.Drilled cause = absurd (not_net_and_drill o.words net cause.due.asked is cause.due.named)
    by status.Reported cause =
        let read = cause.due.read in
        inl (refl, read.bytes, cause.due.script, subst (λ file. Holds o.files.told file read.bytes) (same read.asked read.named) read.holds, read.reads, subst (Grew o.sink o.sink_after) cause.due.line cause.says)
    by status.BadWords cause = absurd (not_networked o.words net cause.due.bad.no_net is)
    by status.BadFile cause =
        ⊎_elim
        (λ refused. absurd (no_server refused.asked refused.named))
        (λ bad. let file = same bad.asked bad.named in inr (inl (
          refl,
          bad.bytes,
          cause.text,
          subst (λ file. Holds o.files.told file bad.bytes) file bad.holds,
          subst (λ file. IsOffScript file bad.bytes cause.text) file bad.off,
          cause.says,
        )))
        cause.due.read
    by status.UnreadFile cause =
        ⊎_elim
        (λ server. absurd (no_server server.0 server.1))
        (λ asked. inr (inr (inl (refl, subst (λ file. Grew o.sink o.sink_after (unread_text file)) (sym asked.2 ∙ same asked.0 asked.1) (subst (Grew o.sink o.sink_after) cause.due.line cause.says)))))
        cause.due.named
    by status.NoListener cause = absurd (no_server cause.due.run.read.asked cause.due.run.read.named)
    by status.LostWire cause = absurd (no_server cause.run.read.asked cause.run.read.named)
    by status.NoMemory cause = inr (inr (inr (inl refl)))
    by status.LostSink cause = inr (inr (inr (inr (refl, cause.failed))))

-- ---- the counts

-- no text is due where the wire failed
due_nexts : (wanted : Status) (o : Outside) (text : List ℕ) (n : ℕ) → IsDue wanted o text → failed_nexts wanted n ≡ n
due_nexts status.LostWire o text n due = absurd due
due_nexts _ o text n due = refl

-- the counts where a part of a text was written
broken_counts : (o : Outside) (code : ℕ) → (code == 5) ≡ false → (code == 6 || code == 7) ≡ true → BreaksOff o
    → o.sink_after.faults ≡ (if code == 7 then one_more o.sink.faults else o.sink.faults) → CountsOnce code o
broken_counts o code no_next breaks part sink = record {
  nexts = part.fails.nexts ∙ due_nexts part.wanted o part.text o.wire.failed_nexts part.due ∙ ap (λ b. if b then one_more o.wire.failed_nexts else o.wire.failed_nexts) (sym no_next);
  sink = sink;
  reads = λ whole. absurd (false≢true (sym whole ∙ breaks));
  listens = λ whole. absurd (false≢true (sym whole ∙ breaks));
}

pub counts : (o : Outside) (ending : Status) → Cause ending o → CountsOnce (code_of_status ending) o
counts o status.Stopped cause = record { nexts = cause.fails.nexts; sink = ap (λ sink. sink.faults) cause.silent; reads = λ whole. cause.fails.reads; listens = λ whole. cause.fails.listens }
counts o status.LostWire cause = record { nexts = cause.fails.nexts; sink = ap (λ sink. sink.faults) cause.silent; reads = λ whole. cause.fails.reads; listens = λ whole. cause.fails.listens }
counts o status.NoMemory cause =
    ⊎_elim
    (λ short. record { nexts = short.fails.nexts; sink = ap (λ sink. sink.faults) short.silent; reads = λ whole. absurd (false≢true (sym whole)); listens = λ whole. absurd (false≢true (sym whole)) })
    (λ part. broken_counts o 6 refl refl part.0 part.1)
    cause
counts o status.LostSink cause = broken_counts o 7 refl refl cause.part cause.failed
counts o _ cause = record { nexts = cause.fails.nexts; sink = cause.taken; reads = λ whole. cause.fails.reads; listens = λ whole. cause.fails.listens }
