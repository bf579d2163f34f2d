-- Why the program ends with each of its statuses, and what it leaves.
use Rattle.std.specs.Prelude.{◌≡◌, ◌⊎◌, ◌==◌, ◌||◌, ℕ, ◌<◌, ◌≤◌, Bool, List, take, length, true, false, if◌then◌else◌, ◌∷◌, ◌++◌, Option, Some, None, Ok, Err}
use Rattle.std.specs.List.{All}
use Rattle.aprs_base.specs.Outside.{WireShown, one_more}
use Rattle.aprs_base.specs.Stores.{FilesShown, Holds, SinkShown, place_named}
use Rattle.aprs_base.specs.declared.events.Happening.TheVariants as did
use Rattle.aprs_base.specs.declared.files.MemFile.{MemFile}
use Rattle.aprs_history.specs.Setting.{Setting}
use Rattle.aprs_history.specs.Texts.{text_to}
use Rattle.aprs_history.specs.History.{History, trace_of}
use Rattle.aprs_history.specs.declared.verdicts.EndReason.{EndReason}
use Rattle.aprs_history.specs.Trace.{Trace}
use Rattle.aprs_history.specs.Trace as trace
use Rattle.aprs_history.specs.Headline.{EndsBy, HasEnded, HasFreshLinks, IsOfAnother, TakesPrefix}
use Rattle.aprs_history.specs.Runs.{are_listens, listens_in}
use Rattle.aprs_conf.specs.Seen.{ConfSeen}
use Rattle.aprs_conf.specs.Grammar.{conf_of}
use Rattle.aprsc_daemon.specs.Runs.{RunsFor, setting_named}
use Rattle.aprsc_daemon.specs.Phases.{Finished, Idle}
use Rattle.aprsc_daemon.specs.Saying.{Grew, bad_step_text, listen_failed_text, trouble_text, too_large_text, unread_text, usage_text, valid_text}
use Rattle.drill_plan.specs.declared.plan.Plan.{Plan}
use Rattle.net_script.specs.declared.errors.ScriptError.TheVariants as script_error
use Rattle.net_script.specs.Reading.{script_of}
use Rattle.net_script.specs.Running.{script_text}
use Rattle.net_script.specs.Seen.{ScriptSeen}
use Rattle.aprsc_daemon.specs.Configuring.{IsTrouble}
use Rattle.aprsc_daemon.specs.Drill.{IsSummary}
use Rattle.aprsc_daemon.specs.declared.words.DrillWords.{DrillWords}
use Rattle.aprsc_daemon.specs.declared.configuring.Trouble.{Trouble}
use Rattle.aprsc_daemon.specs.Asked.{AskNothing}
use Rattle.aprsc_daemon.specs.Words.{NetWordsSeen, ServerWordsSeen, asked_of, drill_of, net_of}
use Rattle.aprsc_daemon.specs.declared.words.Task.{Task}
use Rattle.aprsc_daemon.specs.declared.words.Task.TheVariants as task
use Rattle.aprsc_daemon.specs.declared.serving.End.{End}
use Rattle.aprsc_daemon.specs.declared.serving.End.TheVariants as ended
use Rattle.aprsc_daemon.specs.declared.program.Status.{Status}
use Rattle.aprsc_daemon.specs.declared.program.Status.TheVariants as status

-- the words that the program is started with, and what its outside shows before and after it
pub record Outside : Type 0 where
  pub words : List (List ℕ)
  pub files : FilesShown
  pub files_after : FilesShown
  pub wire : WireShown
  pub wire_after : WireShown
  pub sink : SinkShown
  pub sink_after : SinkShown

abbrev pub outside_of : List (List ℕ) → (files files_after : FilesShown) → (wire wire_after : WireShown) → (sink sink_after : SinkShown) → Outside
outside_of words files files_after wire wire_after sink sink_after = record {
  words = words;
  files = files;
  files_after = files_after;
  wire = wire;
  wire_after = wire_after;
  sink = sink;
  sink_after = sink_after;
}

-- the wire is as it was
abbrev pub IsUnused : Outside → Type 0
IsUnused o = o.wire_after ≡ o.wire

-- no file was read
abbrev pub ReadsNone : FilesShown → FilesShown → Type 0
ReadsNone old new = (new.told ≡ old.told) × (new.last ≡ old.last) × (new.reads ≡ old.reads)

-- the file of this name was read, once
abbrev pub ReadsOne : List ℕ → FilesShown → FilesShown → Type 0
ReadsOne name old new = (new.told ≡ old.told) × (new.last ≡ place_named name old.told) × (new.reads ≡ one_more old.reads)

-- the words name this file, of the server's configuration or of a network's script
abbrev pub NamesFile : List (List ℕ) → List ℕ → Type 0
NamesFile words file =
    ((asked : ServerWordsSeen) × (asked_of words ≡ Some asked) × (asked.file ≡ file))
    ⊎ ((asked : NetWordsSeen) × (net_of words ≡ Some asked) × (asked.file ≡ file))

-- no file was read, or that which the words name, once
abbrev pub ReadsNamed : List (List ℕ) → FilesShown → FilesShown → Type 0
ReadsNamed words old new = ReadsNone old new ⊎ ((file : List ℕ) × NamesFile words file × ReadsOne file old new)

-- and the reading didn't fail
abbrev pub ReadsWell : List (List ℕ) → FilesShown → FilesShown → Type 0
ReadsWell words old new = ReadsNamed words old new × (new.faults ≡ old.faults)

-- the words ask for this task with a file that holds this configuration, as far as the files tell
pub record HasNamed (asked_task : Task) (words : List (List ℕ)) (told : Option (List MemFile)) (conf : ConfSeen) : Type 0 where
  pub asked : ServerWordsSeen
  pub bytes : List ℕ
  pub named : asked_of words ≡ Some asked
  pub is_asked : asked.task ≡ asked_task
  pub holds : Holds told asked.file bytes
  pub short : length bytes ≤ 65536
  pub reads : conf_of bytes ≡ Ok conf

-- the words ask for no run, or the file that they name holds no configuration
abbrev pub NamesNone : List (List ℕ) → Option (List MemFile) → Type 0
NamesNone words told = (conf : ConfSeen) → HasNamed task.Serve words told conf → ⊥

-- a run was asked for, and what happened on the wire is one for the named configuration
pub record IsServed (o : Outside) (P : Setting → History → Type 0) : Type 0 where
  pub conf : ConfSeen
  pub read : HasNamed task.Serve o.words o.files.told conf
  pub run : RunsFor conf o.wire.told o.wire_after.told (P (setting_named conf))

-- ---- what is written

-- nothing
abbrev pub IsSilent : Outside → Type 0
IsSilent o = o.sink_after ≡ o.sink

-- the first bytes of a text: none, some, or all of them
abbrev pub GrewPart : SinkShown → SinkShown → List ℕ → Type 0
GrewPart old new text = (k : ℕ) × Grew old new (take k text)

-- ---- the statuses that have a text: their causes but for the writing, and the text

-- 0 with `-y`: the words ask for a check, and the named file holds a configuration
pub record HasValidFile (o : Outside) (text : List ℕ) : Type 0 where
  pub conf : ConfSeen
  pub read : HasNamed task.Check o.words o.files.told conf
  pub unused : IsUnused o
  pub line : text ≡ valid_text read.asked.file

-- 0 with `drill`: the words ask for a drill, and the text says what it counted
pub record HasDrilled (o : Outside) (text : List ℕ) : Type 0 where
  pub asked : DrillWords
  pub named : drill_of o.words ≡ Some asked
  pub unused : IsUnused o
  pub summary : IsSummary asked.plan text

-- the words ask for a network, and the file that they name holds this script, as far as the files tell
pub record HasScript (words : List (List ℕ)) (told : Option (List MemFile)) (script : ScriptSeen) : Type 0 where
  pub asked : NetWordsSeen
  pub bytes : List ℕ
  pub named : net_of words ≡ Some asked
  pub holds : Holds told asked.file bytes
  pub reads : script_of bytes ≡ Ok script

-- 0 with `net`: the named file holds a script, and the text is what this comes to
pub record HasReported (o : Outside) (text : List ℕ) : Type 0 where
  pub script : ScriptSeen
  pub read : HasScript o.words o.files.told script
  pub unused : IsUnused o
  pub line : text ≡ script_text script

-- 1: the words ask neither for the server nor for a drill nor for a network
pub record HasBadWords (o : Outside) (text : List ℕ) : Type 0 where
  pub bad : AskNothing o.words
  pub unused : IsUnused o
  pub line : text ≡ usage_text

-- these bytes of the file are too many, or no configuration; and the text that says which
abbrev pub IsOff : List ℕ → List ℕ → List ℕ → Type 0
IsOff file bytes text =
    ((65536 < length bytes) × (text ≡ too_large_text file))
    ⊎ ((length bytes ≤ 65536) × (trouble : Trouble) × IsTrouble trouble (conf_of bytes) × (text ≡ trouble_text file trouble))

-- the words name a file that holds such bytes, as far as the files tell
pub record HasRefused (words : List (List ℕ)) (told : Option (List MemFile)) (text : List ℕ) : Type 0 where
  pub asked : ServerWordsSeen
  pub bytes : List ℕ
  pub named : asked_of words ≡ Some asked
  pub holds : Holds told asked.file bytes
  pub off : IsOff asked.file bytes text

-- these bytes of the file are too many, or no script; and the text that says which
abbrev pub IsOffScript : List ℕ → List ℕ → List ℕ → Type 0
IsOffScript file bytes text =
    ((script_of bytes ≡ Err script_error.TooLarge) × (text ≡ too_large_text file))
    ⊎ ((n : ℕ) × (script_of bytes ≡ Err (script_error.BadStep n)) × (text ≡ bad_step_text file n))

-- the words ask for a network, and name a file that holds such bytes, as far as the files tell
pub record HasBadScript (words : List (List ℕ)) (told : Option (List MemFile)) (text : List ℕ) : Type 0 where
  pub asked : NetWordsSeen
  pub bytes : List ℕ
  pub named : net_of words ≡ Some asked
  pub holds : Holds told asked.file bytes
  pub off : IsOffScript asked.file bytes text

-- 2: the words are good, and the named file is too large or off its grammar
pub record HasBadFile (o : Outside) (text : List ℕ) : Type 0 where
  pub read : HasRefused o.words o.files.told text ⊎ HasBadScript o.words o.files.told text
  pub unused : IsUnused o

-- 3: the words are good, and the files failed
pub record HasUnreadFile (o : Outside) (text : List ℕ) : Type 0 where
  pub file : List ℕ
  pub named : NamesFile o.words file
  pub unused : IsUnused o
  pub line : text ≡ unread_text file

-- so many listeners were opened, and nothing else happened
abbrev pub OpensOnly : ℕ → History → Type 0
OpensOnly n more = (listens_in more ≡ n) × (are_listens more ≡ true)

-- 4: the listener of this number failed
pub record HasNoListener (o : Outside) (text : List ℕ) : Type 0 where
  pub number : ℕ
  pub run : IsServed o (λ setting. OpensOnly number)
  pub within : number < length (setting_named run.conf).listens
  pub line : text ≡ listen_failed_text number

-- the status's cause is there but for the writing of this text
abbrev pub IsDue : Status → Outside → List ℕ → Type 0
IsDue status.Stopped o text = ⊥
IsDue status.Checked o text = HasValidFile o text
IsDue status.Drilled o text = HasDrilled o text
IsDue status.Reported o text = HasReported o text
IsDue status.BadWords o text = HasBadWords o text
IsDue status.BadFile o text = HasBadFile o text
IsDue status.UnreadFile o text = HasUnreadFile o text
IsDue status.NoListener o text = HasNoListener o text
IsDue status.LostWire o text = ⊥
IsDue status.NoMemory o text = ⊥
IsDue status.LostSink o text = ⊥

-- ---- the calls that failed

-- a count of failed reads, of failed calls of `listen` or of `next` after a call with this status: the one failure that the
-- status tells of counts once, and no other call failed
abbrev pub failed_reads : Status → ℕ → ℕ
failed_reads status.UnreadFile failed = one_more failed
failed_reads _ failed = failed

abbrev pub failed_listens : Status → ℕ → ℕ
failed_listens status.NoListener failed = one_more failed
failed_listens _ failed = failed

abbrev pub failed_nexts : Status → ℕ → ℕ
failed_nexts status.LostWire failed = one_more failed
failed_nexts _ failed = failed

-- no call failed but that which the status tells of, and no file was read but the one that the words name
pub record FailsFor (ending : Status) (o : Outside) : Type 0 where
  pub file : ReadsNamed o.words o.files o.files_after
  pub reads : o.files_after.faults ≡ failed_reads ending o.files.faults
  pub listens : o.wire_after.failed_listens ≡ failed_listens ending o.wire.failed_listens
  pub nexts : o.wire_after.failed_nexts ≡ failed_nexts ending o.wire.failed_nexts

-- the text of a status was due, and was written whole
pub record Reports (wanted : Status) (o : Outside) : Type 0 where
  pub text : List ℕ
  pub due : IsDue wanted o text
  pub fails : FailsFor wanted o
  pub says : Grew o.sink o.sink_after text
  pub taken : o.sink_after.faults ≡ o.sink.faults

-- the text of some status was due, and a part of it was written
pub record BreaksOff (o : Outside) : Type 0 where
  pub wanted : Status
  pub text : List ℕ
  pub due : IsDue wanted o text
  pub fails : FailsFor wanted o
  pub says : GrewPart o.sink o.sink_after text

-- ---- the statuses without a text

-- 0 without `-y`: a stop was read, and every act that it makes due is done
pub record HasStopped (o : Outside) : Type 0 where
  pub run : IsServed o Finished
  pub fails : FailsFor status.Stopped o
  pub silent : IsSilent o

-- 5: the wire failed where every listener was opened, and no act is due
pub record HasLostWire (o : Outside) : Type 0 where
  pub run : IsServed o Idle
  pub fails : FailsFor status.LostWire o
  pub silent : IsSilent o

-- want of memory where no text is begun
pub record RunsShort (o : Outside) : Type 0 where
  pub run : IsUnused o ⊎ IsServed o (λ setting. HasFreshLinks)
  pub fails : FailsFor status.NoMemory o
  pub silent : IsSilent o

-- 6: want of memory, also in the writing of a text
abbrev pub HasNoMemory : Outside → Type 0
HasNoMemory o = RunsShort o ⊎ (BreaksOff o × (o.sink_after.faults ≡ o.sink.faults))

-- 7: the sink failed, or took nothing of a piece that isn't empty, in the writing of a text
pub record HasLostSink (o : Outside) : Type 0 where
  pub part : BreaksOff o
  pub failed : o.sink_after.faults ≡ one_more o.sink.faults

-- ---- each status

abbrev pub Cause : Status → Outside → Type 0
Cause status.Stopped o = HasStopped o
Cause status.Checked o = Reports status.Checked o
Cause status.Drilled o = Reports status.Drilled o
Cause status.Reported o = Reports status.Reported o
Cause status.BadWords o = Reports status.BadWords o
Cause status.BadFile o = Reports status.BadFile o
Cause status.UnreadFile o = Reports status.UnreadFile o
Cause status.NoListener o = Reports status.NoListener o
Cause status.LostWire o = HasLostWire o
Cause status.NoMemory o = HasNoMemory o
Cause status.LostSink o = HasLostSink o

abbrev pub code_of_status : Status → ℕ
code_of_status status.Stopped = 0
code_of_status status.Checked = 0
code_of_status status.Drilled = 0
code_of_status status.Reported = 0
code_of_status status.BadWords = 1
code_of_status status.BadFile = 2
code_of_status status.UnreadFile = 3
code_of_status status.NoListener = 4
code_of_status status.LostWire = 5
code_of_status status.NoMemory = 6
code_of_status status.LostSink = 7

-- the statuses of what ended before it served
abbrev pub is_before_serving : ℕ → Bool
is_before_serving code = code == 1 || code == 2 || code == 3 || code == 4 || code == 7

abbrev pub status_of : End → Status
status_of ended.Stopped = status.Stopped
status_of ended.Failed = status.LostWire
status_of ended.Memory = status.NoMemory

-- the code is that of a status whose cause is there
abbrev pub HasCause : ℕ → Outside → Type 0
HasCause code o = (ending : Status) × (code ≡ code_of_status ending) × Cause ending o

-- what each status says of the counts: the call that it tells of failed once, and no other did. Where the writing of a text
-- broke off, with 6 or 7, the failure that the text tells of counts too
pub record CountsOnce (code : ℕ) (o : Outside) : Type 0 where
  pub nexts : o.wire_after.failed_nexts ≡ (if code == 5 then one_more o.wire.failed_nexts else o.wire.failed_nexts)
  pub sink : o.sink_after.faults ≡ (if code == 7 then one_more o.sink.faults else o.sink.faults)
  pub reads : (code == 6 || code == 7) ≡ false → o.files_after.faults ≡ (if code == 3 then one_more o.files.faults else o.files.faults)
  pub listens : (code == 6 || code == 7) ≡ false → o.wire_after.failed_listens ≡ (if code == 4 then one_more o.wire.failed_listens else o.wire.failed_listens)

-- ---- the headline

-- how a run ends; its links were numbered freshly
pub record Ended (code : ℕ) (setting : Setting) (more : History) : Type 0 where
  pub fresh : HasFreshLinks more
  pub stopped : code ≡ 0 → Finished setting more
  pub lost : code ≡ 5 → Idle setting more

-- what a run keeps: the bytes that each link took are a prefix of its text, no line of a text is a packet that the link sent
-- itself, a link ended only by the rule of its reason, and it was closed only where it had ended by a reason that closes
pub record KeepsPromise (setting : Setting) (more : History) : Type 0 where
  pub takes : (link : ℕ) → TakesPrefix setting more link
  pub others : (link : ℕ) → All (IsOfAnother link) (text_to setting (trace_of setting more) link).lines
  pub ends : (later earlier : Trace) (link : ℕ) (reason : EndReason) → trace_of setting more ≡ later ++ trace.Ended link reason ∷ earlier → EndsBy setting more earlier link reason
  pub closes : (later earlier : History) (link : ℕ) → more ≡ later ++ did.Closed link ∷ earlier → HasEnded (trace_of setting earlier) link

-- before every listener is open
abbrev pub Opening : Setting → History → Type 0
Opening setting more = listens_in more < length setting.listens

-- ---- completeness

-- the words ask for a drill
abbrev pub AskDrill : List (List ℕ) → Type 0
AskDrill words = (asked : DrillWords) × (drill_of words ≡ Some asked)

-- the status that the words ask for, and the file where the files tell it: 1 for bad words, 2 for a file that is off, 0 for
-- a configuration, whether it is to be served or checked, for a drill, and for a script
abbrev pub Asks : List (List ℕ) → Option (List MemFile) → ℕ → Type 0
Asks words None code =
    ((code ≡ 1) × AskNothing words)
    ⊎ ((code ≡ 0) × AskDrill words)
Asks words (Some files) code =
    ((code ≡ 1) × AskNothing words)
    ⊎ ((code ≡ 2) × (text : List ℕ) × HasRefused words (Some files) text)
    ⊎ ((code ≡ 0) × (asked_task : Task) × (conf : ConfSeen) × HasNamed asked_task words (Some files) conf)
    ⊎ ((code ≡ 0) × AskDrill words)
    ⊎ ((code ≡ 2) × (text : List ℕ) × HasBadScript words (Some files) text)
    ⊎ ((code ≡ 0) × (script : ScriptSeen) × HasScript words (Some files) script)

-- ---- a drill

-- it ends with its summary on the sink, for want of memory, or where the sink failed
abbrev pub DrillEnds : ℕ → Plan → SinkShown → SinkShown → Type 0
DrillEnds code plan old new =
    ((code ≡ 0) × (text : List ℕ) × IsSummary plan text × Grew old new text)
    ⊎ (code ≡ 6)
    ⊎ ((code ≡ 7) × (new.faults ≡ one_more old.faults))

-- ---- a network

-- it ends with what the file's script comes to on the sink, with what is wrong with the file, for want of memory, or where the
-- sink failed
abbrev pub NetEnds : ℕ → List ℕ → Option (List MemFile) → SinkShown → SinkShown → Type 0
NetEnds code file told old new =
    ((code ≡ 0) × (bytes : List ℕ) × (script : ScriptSeen) × Holds told file bytes × (script_of bytes ≡ Ok script) × Grew old new (script_text script))
    ⊎ ((code ≡ 2) × (bytes : List ℕ) × (text : List ℕ) × Holds told file bytes × IsOffScript file bytes text × Grew old new text)
    ⊎ ((code ≡ 3) × Grew old new (unread_text file))
    ⊎ (code ≡ 6)
    ⊎ ((code ≡ 7) × (new.faults ≡ one_more old.faults))

-- ---- a text and its status

-- the text was written whole, for the wanted status, or else a part of it, for want of memory or where the sink failed
abbrev pub Said : SinkShown → SinkShown → List ℕ → Status → Status → Type 0
Said old new text wanted result =
    ((result ≡ wanted) × Grew old new text × (new.faults ≡ old.faults))
    ⊎ ((result ≡ status.NoMemory) × GrewPart old new text × (new.faults ≡ old.faults))
    ⊎ ((result ≡ status.LostSink) × GrewPart old new text × (new.faults ≡ one_more old.faults))
