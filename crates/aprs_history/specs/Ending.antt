-- When links end: in the round of the event that ended them, and, where they are overfull, before the next round.
use Rattle.std.specs.Prelude.{◌≡◌, ℕ, ◌==◌, Bool, false, List, [], ◌∷◌, ◌++◌, IsTrue, IsFalse, if◌then◌else◌, ⊤}
use Rattle.std.specs.List.{list_any}
use Rattle.aprs_base.specs.declared.events.Event.{Event}
use Rattle.aprs_base.specs.declared.events.Event.TheVariants as event
use Rattle.aprs_base.specs.declared.events.Happening.TheVariants as did
use Rattle.aprs_history.specs.declared.verdicts.EndReason.{EndReason}
use Rattle.aprs_history.specs.declared.verdicts.EndReason.TheVariants.{ByPeer, ByStop}
use Rattle.aprs_history.specs.Setting.{Setting}
use Rattle.aprs_history.specs.Trace.{Trace, Ended, is_live, is_member, served_links}
use Rattle.aprs_history.specs.Texts.{text_to}
use Rattle.aprs_history.specs.History.{History, is_stop, open_events, trace_of}
use Rattle.aprs_history.specs.Acts.{IsRun}
use Rattle.aprs_history.specs.Headline.{HasFreshLinks, is_round_start}

-- ---- by an event of the round

-- the events of the last round, which may go on, the last one first
abbrev pub last_events : History → List Event
last_events [] = []
last_events (did.Event e ∷ earlier) = e ∷ (if open_events earlier == 0 then [] else last_events earlier)
last_events (x ∷ earlier) = last_events earlier

-- the peer of a link ended it
abbrev pub is_end_of : ℕ → Event → Bool
is_end_of link (event.Ended other) = other == link
is_end_of link e = false

-- where the reason is an event, that of its peer or a stop, it is among these
abbrev pub HasItsEvent : List Event → ℕ → EndReason → Type 0
HasItsEvent events link ByPeer = IsTrue (list_any (is_end_of link) events)
HasItsEvent events link ByStop = IsTrue (list_any is_stop events)
HasItsEvent events link other = ⊤

-- where an event ended a link in the last round, it came in that round; of an earlier round the history up to there tells
abbrev pub EventsEndInTheirRound : Type 0
EventsEndInTheirRound = (setting : Setting) (history : History) (later earlier : Trace) (link : ℕ) (reason : EndReason) → trace_of setting history ≡ later ++ Ended link reason ∷ earlier
    → IsFalse (list_any is_round_start later) → HasItsEvent (last_events history) link reason

-- ---- overfull links

-- once a round is finished, no link that lives is overfull
abbrev pub NoneStaysOverfull : Type 0
NoneStaysOverfull = (setting : Setting) (history : History) (link : ℕ) → open_events history ≡ 0 → IsTrue (is_live (trace_of setting history) link)
    → IsFalse (text_to setting (trace_of setting history) link).over

-- once a round of a run is finished, no link that a stop ended and that still has its text to take is overfull either
abbrev pub NoneServedIsOverfull : Type 0
NoneServedIsOverfull = (setting : Setting) (history : History) (link : ℕ) → IsRun setting history → HasFreshLinks history → open_events history ≡ 0
    → IsTrue (is_member link (served_links (trace_of setting history))) → IsFalse (text_to setting (trace_of setting history) link).over
