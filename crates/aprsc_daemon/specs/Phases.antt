-- How far the serving of a wire has come: what holds of the happenings so far.
use Rattle.std.specs.List.{AllZip}
use Rattle.std.specs.Prelude.{◌≡◌, ◌⊎◌, ℕ, ◌+◌, ◌&&◌, Bool, true, false, not, List, [], ◌∷◌, ◌++◌, length, drop, map, Option, Some, None, if◌then◌else◌}
use Rattle.aprs_base.specs.Outside.{Told}
use Rattle.aprs_base.specs.declared.events.Event.{Event}
use Rattle.aprs_base.specs.declared.events.Event.TheVariants as event
use Rattle.aprs_base.specs.declared.events.Happening.{Happening}
use Rattle.aprs_base.specs.declared.events.Happening.TheVariants as did
use Rattle.aprs_history.specs.Setting.{Setting}
use Rattle.aprs_base.specs.Journals.{JournalLineSeen}
use Rattle.aprs_history.specs.Trace.{Trace, is_member}
use Rattle.aprs_history.specs.Texts.{untaken}
use Rattle.aprs_history.specs.History.{History, ends_round, is_stopped, open_events, trace_of}
use Rattle.aprs_history.specs.Journal.{journal_of, round_lines}
use Rattle.aprs_history.specs.Rounds.{AreFresh, greatest_after, listens_after, only_listens, with_events}
use Rattle.aprs_history.specs.Acts.{Act, SendsLine, Closes, all_offers, cast_act, dials, due, listens_from}
use Rattle.aprs_history.specs.Downs.{DownSeen, down_of}
use Rattle.aprs_history.specs.Dials.{CastSeen}
use Rattle.aprs_history.specs.Headline.{HasFreshLinks}
use Rattle.aprs_history.specs.Runs.{are_listens, listens_in}
use Rattle.aprsc_daemon.specs.declared.serving.End.{End}
use Rattle.aprsc_daemon.specs.declared.serving.End.TheVariants as ended
use Rattle.aprs_conf.specs.Seen.{ConfSeen}
use Rattle.server_core.specs.Meaning.{CoreMeaning, Stands, setting_of}
use Rattle.server_core.specs.Sending.{with_lines}

-- so many listeners were opened, and nothing else happened
pub record Listening (setting : Setting) (n : ℕ) (more : History) : Type 0 where
  pub due : due setting more ≡ listens_from n (drop n setting.listens)
  pub rest : listens_after n (drop n setting.listens) more ≡ only_listens setting
  pub count : listens_in more ≡ n
  pub only : are_listens more ≡ true
  pub fresh : HasFreshLinks more

-- every listener was opened, the core stands for the history, no act is due, and these are the lines of the journal
pub record Resting (lines : List JournalLineSeen) (core : CoreMeaning) (more : History) : Type 0 where
  pub stands : Stands core more
  pub journal : journal_of (setting_of core.conf) more ≡ lines
  pub none : due (setting_of core.conf) more ≡ []
  pub all : listens_in more ≡ length (setting_of core.conf).listens
  pub fresh : HasFreshLinks more

-- every listener was opened, no act is due, and the links were numbered freshly
pub record Idle (setting : Setting) (more : History) : Type 0 where
  pub none : due setting more ≡ []
  pub all : listens_in more ≡ length setting.listens
  pub fresh : HasFreshLinks more

-- a stop was read, and every act that it makes due is done
pub record Finished (setting : Setting) (more : History) : Type 0 where
  pub stopped : is_stopped more ≡ true
  pub idle : Idle setting more

-- these events have come since
pub record Gathering (lines : List JournalLineSeen) (core : CoreMeaning) (events : List Event) (more : History) : Type 0 where
  pub before : History
  pub since : more ≡ with_events events before
  pub resting : Resting lines core before
  pub going : is_stopped before ≡ false
  pub all : listens_in more ≡ length (setting_of core.conf).listens

-- what is left to these links, and which of them are downlinks, has not changed since
pub record AreAsAt (setting : Setting) (round : Trace) (offers : List ℕ) (more : History) : Type 0 where
  pub left : (link : ℕ) → is_member link offers ≡ true → untaken setting (trace_of setting more) link ≡ untaken setting round link
  pub down : (link : ℕ) → is_member link offers ≡ true → down_of setting (trace_of setting more) link ≡ down_of setting round link

-- a dial, these casts, offers to these links, and then closes of those are due
pub record Owing (conf : ConfSeen) (dial : Option ℕ) (casts : List CastSeen) (offers closes : List ℕ) (more : History) : Type 0 where
  -- the trace at the round's end, for which the offers are due
  pub round : Trace
  pub owed : due (setting_of conf) more ≡ dials dial ++ (map cast_act casts ++ (all_offers (setting_of conf) round offers ++ map Closes closes))
  pub same : AreAsAt (setting_of conf) round offers more
  pub all : listens_in more ≡ length (setting_of conf).listens
  pub fresh : HasFreshLinks more

-- so much of a round's acts is still to be done, and these are the lines of the journal
pub record Acting (lines : List JournalLineSeen) (core : CoreMeaning) (dial : Option ℕ) (casts : List CastSeen) (offers closes : List ℕ) (more : History) : Type 0 where
  pub stands : Stands core more
  pub journal : journal_of (setting_of core.conf) more ≡ lines
  pub owing : Owing core.conf dial casts offers closes more

-- the dial and the casts are done
abbrev pub Offering : List JournalLineSeen → CoreMeaning → (offers closes : List ℕ) → History → Type 0
Offering lines core offers closes more = Acting lines core None [] offers closes more

-- lines to a downlink, then offers to these links, and then closes of those are due
pub record OwingLines (conf : ConfSeen) (link : ℕ) (left : List (List ℕ)) (offers closes : List ℕ) (more : History) : Type 0 where
  pub round : Trace
  pub owed : due (setting_of conf) more ≡ map (SendsLine link) left ++ (all_offers (setting_of conf) round offers ++ map Closes closes)
  pub same : AreAsAt (setting_of conf) round offers more
  pub all : listens_in more ≡ length (setting_of conf).listens
  pub fresh : HasFreshLinks more

-- some lines of an offer went to a downlink, which the core is told once all have gone; the others are still to go
pub record Sending (lines : List JournalLineSeen) (core : CoreMeaning) (link : ℕ) (down : DownSeen) (sent left : List (List ℕ)) (offers closes : List ℕ) (more : History) : Type 0 where
  pub before : History
  pub since : more ≡ with_lines link sent before
  pub stands : Stands core before
  pub journal : journal_of (setting_of core.conf) more ≡ lines
  pub is_down : down_of (setting_of core.conf) (trace_of (setting_of core.conf) more) link ≡ Some down
  pub owing : OwingLines core.conf link left offers closes more

-- a part of a round: none of the events ends it
abbrev pub is_partial : ℕ → List Event → Bool
is_partial before [] = true
is_partial before (e ∷ events) = not (ends_round before e) && is_partial (before + 1) events

-- the links that the events bring are numbered after the first so many, up to the last
pub record Counted (first : ℕ) (events : List Event) (last : ℕ) : Type 0 where
  pub fresh : AreFresh first events
  pub greatest : greatest_after events first ≡ last

-- the events among these happenings
abbrev pub events_in : List Happening → List Event
events_in [] = []
events_in (did.Event e ∷ more) = e ∷ events_in more
events_in (x ∷ more) = events_in more

-- what the wire tells grew by happenings, and their events are these
abbrev pub Brings : List Event → Option Told → Option Told → Type 0
Brings events None new = new ≡ None
Brings events (Some old) new = (told : Told) × (more : List Happening) × (new ≡ Some told) × (told.done ≡ old.done ++ more) × (events_in more ≡ events)

-- bytes are handed up as a datagram to that port
abbrev pub IsSubmitted : ℕ → Event → Event → Type 0
IsSubmitted port (event.Bytes link bytes) (event.Datagram listener from body) = listener ≡ port
IsSubmitted port came up = ⊥

-- an event is handed up as it came, or its bytes as a datagram to the front's port
abbrev pub IsHandedUp : Option ℕ → Event → Event → Type 0
IsHandedUp None came up = up ≡ came
IsHandedUp (Some port) came up = (up ≡ came) ⊎ IsSubmitted port came up

-- events came, and for each of them one of these was handed up
abbrev pub BringsUp : Option ℕ → List Event → Option Told → Option Told → Type 0
BringsUp at events old new = (came : List Event) × Brings came old new × AllZip (IsHandedUp at) came events

-- ---- the journal

-- its lines but for those of the last round that is finished
abbrev pub lines_but_last : Setting → History → List JournalLineSeen
lines_but_last setting [] = []
lines_but_last setting (did.Event e ∷ earlier) = if ends_round (open_events earlier) e then journal_of setting earlier else lines_but_last setting earlier
lines_but_last setting (x ∷ earlier) = lines_but_last setting earlier

-- these are first lines of the journal, and those of its last finished round alone may be missing
pub record AreFirst (setting : Setting) (lines : List JournalLineSeen) (more : History) : Type 0 where
  pub rest : List JournalLineSeen
  pub some : List JournalLineSeen
  pub first : journal_of setting more ≡ lines ++ rest
  pub most : lines ≡ lines_but_last setting more ++ some

-- memory was wanting: links were numbered freshly, and these lines were told
pub record Broken (setting : Setting) (lines : List JournalLineSeen) (more : History) : Type 0 where
  pub fresh : HasFreshLinks more
  pub told : AreFirst setting lines more

-- no act is due, and these are the lines of the journal
pub record Idling (setting : Setting) (lines : List JournalLineSeen) (more : History) : Type 0 where
  pub idle : Idle setting more
  pub journal : journal_of setting more ≡ lines

-- which lines the journals were told where the serving of a wire ended
abbrev pub AreTold : Setting → End → List JournalLineSeen → History → Type 0
AreTold setting ended.Stopped lines more = journal_of setting more ≡ lines
AreTold setting ended.Failed lines more = journal_of setting more ≡ lines
AreTold setting ended.Memory lines more = AreFirst setting lines more

-- these are the lines of the round with these events
abbrev pub AreOfRound : CoreMeaning → List Event → List JournalLineSeen → Type 0
AreOfRound core events lines = (h : History) → Stands core h → lines ≡ round_lines (setting_of core.conf) (trace_of (setting_of core.conf) (with_events events h))

-- what is so where the serving of a wire ended
abbrev pub Ends : Setting → End → History → Type 0
Ends setting ended.Stopped more = Finished setting more
Ends setting ended.Failed more = Idle setting more
Ends setting ended.Memory more = HasFreshLinks more

-- what is so where the serving of a wire ended, and of the lines that the journals were told
abbrev pub Served : Setting → End → List JournalLineSeen → History → Type 0
Served setting end lines more = Ends setting end more × AreTold setting end lines more

-- which lines the journals were told where the call ended with this status: those of the journal, but after 6 perhaps not those
-- of the last finished round
pub record JournalTold (code : ℕ) (setting : Setting) (lines : List JournalLineSeen) (more : History) : Type 0 where
  pub first : AreFirst setting lines more
  pub whole : (code ≡ 6 → ⊥) → journal_of setting more ≡ lines
