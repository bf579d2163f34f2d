-- What a round tells the journals.
use Rattle.std.specs.Prelude.{◌≡◌, ℕ, ◌==◌, Bool, true, false, List, ◌++◌, if◌then◌else◌}
use Rattle.std.specs.List.{list_any}
use Rattle.aprs_base.specs.Journals.{JournalLineSeen}
use Rattle.aprs_base.specs.declared.events.Event.{Event}
use Rattle.aprs_base.specs.declared.events.Event.TheVariants as event
use Rattle.aprs_base.specs.declared.packets.Source.{Source}
use Rattle.aprs_history.specs.declared.verdicts.EndReason.{EndReason}
use Rattle.aprs_history.specs.declared.verdicts.EndReason.TheVariants.{Overfull, Full, Unasked}
use Rattle.aprs_history.specs.declared.verdicts.Verdict.{Verdict}
use Rattle.aprs_history.specs.Setting.{Setting}
use Rattle.aprs_history.specs.Trace.{Trace, is_member, is_unasked, turned_links}
use Rattle.aprs_history.specs.Journal.{end_line, group_of, label, round_lines, verdict_lines}
use Rattle.server_core.specs.Meaning.{CoreMeaning, setting_of}

-- the lines of what was said
abbrev pub said_lines : CoreMeaning → Source → Verdict → List JournalLineSeen
said_lines core from verdict = verdict_lines (label (group_of (setting_of core.conf)) from) core.seen.moment verdict

-- whether a link came from an uplink with one of the events
abbrev pub is_joining : ℕ → Event → Bool
is_joining link (event.Joined uplink joined at) = joined == link
is_joining link e = false

abbrev pub has_joined : List Event → ℕ → Bool
has_joined events link = list_any (is_joining link) events

-- why a link ends with the round, where these were turned away: a connection as full, and an uplink's link as unasked
abbrev pub refused_by : (turned : List ℕ) → List Event → ℕ → EndReason
refused_by turned events link = if is_member link turned then (if has_joined events link then Unasked else Full) else Overfull

abbrev pub refused_line : (turned : List ℕ) → List Event → (now link : ℕ) → JournalLineSeen
refused_line turned events now link = end_line now link (refused_by turned events link)

-- the lines so far are those of the round so far, after those before it
abbrev pub AreTold : Setting → Trace → (before lines : List JournalLineSeen) → Type 0
AreTold setting trace before lines = lines ≡ before ++ round_lines setting trace

-- the lines go on as the trace does
abbrev pub Tells : Setting → (old new : Trace) → (old_lines new_lines : List JournalLineSeen) → Type 0
Tells setting old new old_lines new_lines = (before : List JournalLineSeen) → AreTold setting old before old_lines → AreTold setting new before new_lines

-- nobody had asked for the links that were turned away and came from an uplink with one of the events
abbrev pub KnowUnasked : List Event → Trace → Type 0
KnowUnasked events trace = (link : ℕ) → is_member link (turned_links trace) ≡ true → is_unasked trace link ≡ has_joined events link
