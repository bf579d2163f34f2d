-- What a refused line leaves as it was, and what the journals have of it.
use Rattle.std.specs.Prelude.{◌≡◌, ℕ, ◌&&◌, List, [], ◌∷◌, ◌++◌, IsFalse}
use Rattle.aprs_base.specs.Journals.{JournalLineSeen}
use Rattle.aprs_base.specs.PacketSeen.{PacketSeen}
use Rattle.aprs_base.specs.declared.cutting.Cut.{Cut}
use Rattle.aprs_base.specs.declared.packets.Source.{Source}
use Rattle.q_construct.specs.declared.origins.Origin.{Origin}
use Rattle.aprs_history.specs.declared.verdicts.Refusal.{Refusal}
use Rattle.aprs_history.specs.declared.verdicts.Verdict.TheVariants.{Refused}
use Rattle.aprs_history.specs.Setting.{Setting}
use Rattle.aprs_history.specs.Trace.{Trace, Said, is_from, live_links, moment_of}
use Rattle.aprs_history.specs.Links.{filter_of, session_of}
use Rattle.aprs_history.specs.Scenes.{accepted_of, datagram_scene, scene_of}
use Rattle.aprs_history.specs.Sights.{is_gate_at, sighting}
use Rattle.aprs_history.specs.Messages.{heard_of, promise_of}
use Rattle.aprs_history.specs.Counts.{is_duplicate_refusal}
use Rattle.aprs_history.specs.Texts.{is_shown, text_to, wants}
use Rattle.aprs_history.specs.History.{History, open_events, trace_of}
use Rattle.aprs_history.specs.Journal.{entry_lines, group_of, journal_of, label, refusal_line}

-- ---- what is kept

-- logins and filters, and what was accepted, seen, heard and promised, are as they were; so each line to come, on a link or in a
-- datagram, meets what it would have met, and the same links want a packet
pub record IsAsItWas (setting : Setting) (before after : Trace) : Type 0 where
  pub links : live_links after ≡ live_links before
  pub sessions : (link : ℕ) → session_of after link ≡ session_of before link
  pub filters : (link : ℕ) → filter_of after link ≡ filter_of before link
  pub accepted : accepted_of after ≡ accepted_of before
  pub places : (call : List ℕ) → sighting (accepted_of after) (moment_of after) call ≡ sighting (accepted_of before) (moment_of before) call
  pub gates : (call : List ℕ) → is_gate_at (accepted_of after) (moment_of after) call ≡ is_gate_at (accepted_of before) (moment_of before) call
  pub hearers : (link : ℕ) (call : List ℕ) → heard_of after link call ≡ heard_of before link call
  pub promises : (link : ℕ) (sender : List ℕ) → promise_of after link sender ≡ promise_of before link sender
  pub scenes : (link : ℕ) → scene_of setting after link ≡ scene_of setting before link
  pub datagrams : (origin : Origin) → datagram_scene setting origin after ≡ datagram_scene setting origin before
  pub wanted : (packet : PacketSeen) (link : ℕ) → wants after packet link ≡ wants before packet link

-- a line that is refused leaves it so, wherever it comes from and whatever came before
abbrev pub RefusalsChangeNothing : Type 0
RefusalsChangeNothing = (setting : Setting) (earlier : Trace) (from : Source) (said : Cut) (why : Refusal) → IsAsItWas setting earlier (Said from said (Refused why) ∷ earlier)

-- and no link but its own is told of it, but those that are shown duplicates
abbrev pub RefusalsReachNobody : Type 0
RefusalsReachNobody = (setting : Setting) (earlier : Trace) (from : Source) (said : Cut) (why : Refusal) (link : ℕ)
    → IsFalse (is_from link from) → IsFalse (is_duplicate_refusal why && is_shown earlier from link)
    → text_to setting (Said from said (Refused why) ∷ earlier) link ≡ text_to setting earlier link

-- ---- the journals

-- the lines of all entries of a trace, in order
abbrev pub lines_in : Setting → Trace → List JournalLineSeen
lines_in setting [] = []
lines_in setting (entry ∷ earlier) = lines_in setting earlier ++ entry_lines setting entry earlier

-- once a round is finished, the journals have the lines of each entry, once and in order
abbrev pub JournalsTellEachEntry : Type 0
JournalsTellEachEntry = (setting : Setting) (history : History) → open_events history ≡ 0 → journal_of setting history ≡ lines_in setting (trace_of setting history)

-- a refused line has exactly one, with the moment, who said it, and why it was refused
abbrev pub RefusalsHaveOneLine : Type 0
RefusalsHaveOneLine = (setting : Setting) (earlier : Trace) (from : Source) (said : Cut) (why : Refusal)
    → entry_lines setting (Said from said (Refused why)) earlier ≡ refusal_line (label (group_of setting) from) (moment_of earlier) why ∷ []
