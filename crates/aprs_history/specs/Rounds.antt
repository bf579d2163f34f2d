-- Whole rounds of events, and the histories that they make.
use Rattle.std.specs.Prelude.{ℕ, ◌+◌, ◌<◌, ◌&&◌, ◌||◌, Bool, false, not, List, [], ◌∷◌, IfSome, ⊤}
use Rattle.aprs_base.specs.Outside.{new_link}
use Rattle.aprs_base.specs.declared.events.Event.{Event}
use Rattle.aprs_base.specs.declared.events.Happening.TheVariants as did
use Rattle.aprs_base.specs.declared.packets.ListenSpec.{ListenSpec}
use Rattle.aprs_history.specs.Setting.{Setting}
use Rattle.aprs_history.specs.Trace.{Trace}
use Rattle.aprs_history.specs.History.{History, ends_round, greater_link, is_stop, with_event}

-- one whole round, after so many of its events: the last one ends it, and none before
abbrev pub is_whole : ℕ → List Event → Bool
is_whole before [] = false
is_whole before (e ∷ []) = ends_round before e
is_whole before (e ∷ next ∷ events) = not (ends_round before e) && is_whole (before + 1) (next ∷ events)

-- the links that the events bring rise above the greatest so far
abbrev pub AreFresh : ℕ → List Event → Type 0
AreFresh greatest [] = ⊤
AreFresh greatest (e ∷ events) = IfSome (new_link e) (λ link. greatest < link) × AreFresh (greater_link (new_link e) greatest) events

-- the history with these events, the first of them first
abbrev pub with_events : List Event → History → History
with_events [] history = history
with_events (e ∷ events) history = with_events events (did.Event e ∷ history)

-- the trace with these events in the same round
abbrev pub events_trace : Setting → List Event → Trace → Trace
events_trace setting [] trace = trace
events_trace setting (e ∷ events) trace = events_trace setting events (with_event setting e trace)

abbrev pub greatest_after : List Event → ℕ → ℕ
greatest_after [] greatest = greatest
greatest_after (e ∷ events) greatest = greatest_after events (greater_link (new_link e) greatest)

abbrev pub stopped_after : List Event → Bool → Bool
stopped_after [] stopped = stopped
stopped_after (e ∷ events) stopped = stopped_after events (is_stop e || stopped)

-- the history of the listeners alone
abbrev pub listens_after : ℕ → List ListenSpec → History → History
listens_after n [] history = history
listens_after n (spec ∷ specs) history = listens_after (n + 1) specs (did.Listen n ∷ history)

abbrev pub only_listens : Setting → History
only_listens setting = listens_after 0 setting.listens []
