-- What a round accepts.
use Rattle.std.proofs.Common.{◌≡◌, Bool, true, false, List, [], ◌∷◌, ◌++◌, refl, sym, ap, ◌∙◌, append_assoc, append-nil}
use Rattle.std.proofs.lemmas.Bool.{false≢true}
use Rattle.aprs_base.specs.PacketSeen.{PacketSeen}
use Rattle.aprs_base.specs.declared.events.Event.{Event}
use Rattle.aprs_base.specs.declared.events.Event.TheVariants as event
use Rattle.aprs_history.specs.declared.verdicts.EndReason.TheVariants.{ByStop, FoundGone}
use Rattle.aprs_history.specs.Setting.{Setting}
use Rattle.aprs_history.specs.Trace.{Trace, Entry, RoundBegan, Said, live_links, moment_of}
use Rattle.aprs_history.specs.Links.{gone_links}
use Rattle.aprs_history.specs.Scenes.{accepted_by, accepted_lately, accepted_of}
use Rattle.aprs_history.specs.History.{History, begin_round, end_each, end_round, end_stopped, open_events, refused_links, refused_reason, trace_of, with_event}
use Rattle.aprs_history.specs.Rounds.{events_trace, is_whole, stopped_after, with_events}
use Rattle.server_core.proofs.RoundLemmas.{trace_whole}
use Rattle.server_core.proofs.TurnedLemmas.{opens_none, unopened}
use Rattle.server_core.proofs.WalkLemmas.{same_after}

-- what was accepted before the last round began
abbrev accepted_before : Trace → List PacketSeen
accepted_before [] = []
accepted_before (RoundBegan ∷ earlier) = accepted_of earlier
accepted_before (entry ∷ earlier) = accepted_before earlier

before_and_lately : (t : Trace) → accepted_of t ≡ accepted_before t ++ accepted_lately t
before_and_lately [] = refl
before_and_lately (RoundBegan ∷ t) = sym (append-nil (accepted_of t))
before_and_lately (Said from cut verdict ∷ t) =
    let more = accepted_by from (moment_of t) verdict in
    ap (λ packets. packets ++ more) (before_and_lately t) ∙ append_assoc (accepted_before t) (accepted_lately t) more
before_and_lately (entry ∷ t) = before_and_lately t

-- what a round adds leaves what was accepted before it
of_before : (entry : Entry) (t : Trace) → opens_none entry ≡ true → accepted_before (entry ∷ t) ≡ accepted_before t
of_before RoundBegan t none = absurd (false≢true none)
of_before entry t none = refl

before_event : (s : Setting) (e : Event) (t : Trace) → accepted_before (with_event s e t) ≡ accepted_before t
before_event s (event.Opened listener link from) t = refl
before_event s (event.Joined uplink link at) t = refl
before_event s e t = unopened accepted_before of_before s e t refl

before_events : (s : Setting) (events : List Event) (t : Trace) → accepted_before (events_trace s events t) ≡ accepted_before t
before_events s [] t = refl
before_events s (e ∷ events) t = before_events s events (with_event s e t) ∙ before_event s e t

before_stop : (stop : Bool) (t : Trace) → accepted_before (end_stopped stop t) ≡ accepted_before t
before_stop false t = refl
before_stop true t = same_after accepted_before (λ k why u. refl) (λ k. ByStop) (live_links t) t

before_round : (s : Setting) (stop : Bool) (events : List Event) (t : Trace) → accepted_before (end_round s stop (events_trace s events (begin_round t))) ≡ accepted_of t
before_round s stop events t =
    let last = events_trace s events (begin_round t) in
    before_stop stop (end_each (refused_reason last) (refused_links s last) last)
    ∙ same_after accepted_before (λ k why u. refl) (refused_reason last) (refused_links s last) last
    ∙ before_events s events (begin_round t)
    ∙ same_after accepted_before (λ k why u. refl) (λ k. FoundGone) (gone_links (RoundBegan ∷ t)) (RoundBegan ∷ t)

-- after a round the accepted packets are those from before it, and then its own
pub round_accepts : (s : Setting) (events : List Event) (h : History) → is_whole 0 events ≡ true → open_events h ≡ 0
    → accepted_of (trace_of s (with_events events h)) ≡ accepted_of (trace_of s h) ++ accepted_lately (trace_of s (with_events events h))
round_accepts s events h whole finished =
    let after = trace_of s (with_events events h) in
    before_and_lately after
    ∙ ap (λ before. before ++ accepted_lately after) (ap accepted_before (trace_whole s 0 events h whole finished) ∙ before_round s (stopped_after events false) events (trace_of s h))
