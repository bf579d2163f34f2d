-- How far the walk over a round's events has come.
use Rattle.std.specs.Prelude.{◌≡◌, ℕ, true, false, List, [], ◌∷◌, ⊤}
use Rattle.aprs_base.specs.declared.events.Event.{Event}
use Rattle.aprs_history.specs.Trace.{Trace}
use Rattle.aprs_history.specs.Rounds.{AreFresh, events_trace, greatest_after, is_whole, stopped_after}
use Rattle.server_core.specs.Meaning.{CoreMeaning, setting_of}
use Rattle.server_core.specs.Steps.{Walks}

-- where events are left no stop has come, and they end the round
abbrev pub GoesOn : List Event → CoreMeaning → Type 0
GoesOn [] core = ⊤
GoesOn (e ∷ events) core = (n : ℕ) × (is_whole n (e ∷ events) ≡ true) × (core.seen.stopped ≡ false)

-- what holds of the core alone
pub record Walking (start : CoreMeaning) (events : List Event) (core : CoreMeaning) (left : List Event) : Type 0 where
  pub conf : core.conf ≡ start.conf
  pub fresh : AreFresh core.seen.greatest left
  pub greatest : greatest_after left core.seen.greatest ≡ greatest_after events start.seen.greatest
  pub stopped : stopped_after left core.seen.stopped ≡ stopped_after events start.seen.stopped
  pub goes : GoesOn left core

-- what holds of the trace: the events that are left make it whole
pub record Traced (start : CoreMeaning) (first : Trace) (events : List Event) (core : CoreMeaning) (left : List Event) (now : Trace) : Type 0 where
  pub whole : events_trace (setting_of start.conf) events first ≡ events_trace (setting_of start.conf) left now
  pub walks : Walks core now
