-- What waits for a server: events that may come in its next rounds.
use Rattle.std.specs.Prelude.{◌≡◌, ℕ, true, false, List, [], ◌∷◌, IfSome, Option, Some, slice_get, ⊤}
use Rattle.net_history.specs.Places.{Each}
use Rattle.aprs_base.specs.declared.events.Event.{Event}
use Rattle.aprs_history.specs.History.{greatest_link, is_round_event, is_stop, is_stopped}
use Rattle.aprs_history.specs.Rounds.{AreFresh}
use Rattle.net_history.specs.Network.{End, NetSeen, ServerSeen}
use Rattle.net_history.specs.Serving.{with_all}
use Rattle.net_schedule.specs.Running.{ServerKept, WayKept}
use Rattle.net_schedule.specs.Standing.{Turns}

-- the links that these events bring have new numbers, and the server hasn't stopped
abbrev pub MayCome : List Event → ServerKept → Type 0
MayCome events kept = AreFresh kept.core.seen.greatest events × (kept.core.seen.stopped ≡ false)

abbrev pub IsReady : ℕ → List Event → List ServerKept → Type 0
IsReady number events servers = IfSome (slice_get servers number) (MayCome events)

-- none of these events ends a round
abbrev pub AreCalm : List Event → Type 0
AreCalm events = Each (λ e. is_round_event e ≡ false) events

-- what waits for the server of that number may come to it, and nothing of it ends a round
pub record Waits (number : ℕ) (n : NetSeen) : Type 0 where
  pub server : ServerSeen
  pub there : slice_get n.servers number ≡ Some server
  pub fresh : AreFresh (greatest_link server.history) server.arrivals
  pub calm : AreCalm server.arrivals
  pub going : is_stopped server.history ≡ false

-- none of these events ends a round but the last, which is a tick
abbrev pub EndsByTick : List Event → Type 0
EndsByTick [] = ⊤
EndsByTick (e ∷ []) = (is_round_event e ≡ true) × (is_stop e ≡ false)
EndsByTick (e ∷ next ∷ events) = (is_round_event e ≡ false) × EndsByTick (next ∷ events)

-- these events may come to the server of that number, which is within a round
pub record Ready (number : ℕ) (rest : List Event) (n : NetSeen) : Type 0 where
  pub server : ServerSeen
  pub there : slice_get n.servers number ≡ Some server
  pub fresh : AreFresh (greatest_link server.history) rest
  pub going : is_stopped server.history ≡ false

-- so far, and with these events the network will be that
pub record Runs (number : ℕ) (brought : End → List ℕ) (after : NetSeen) (rest : List Event) (servers : List ServerKept) (ways : List (Option WayKept)) : Type 0 where
  pub now : NetSeen
  pub turns : Turns number rest brought servers ways now
  pub ready : Ready number rest now
  pub left : with_all number rest now ≡ after
