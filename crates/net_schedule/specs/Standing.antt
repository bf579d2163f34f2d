-- What it is that a running network stands for the steps of a network.
use Rattle.std.specs.Prelude.{◌≡◌, ℕ, zero, suc, ◌+◌, List, [], ◌∷◌, ◌++◌, map, Option, Some, None, slice_get, ◌⊎◌, ⊤}
use Rattle.std.specs.List.{AllZip}
use Rattle.net_history.specs.Places.{Each}
use Rattle.link_queue.specs.Lines.{ended_line}
use Rattle.aprs_base.specs.declared.events.Event.{Event}
use Rattle.aprs_history.specs.Casting.{casts_to_peer}
use Rattle.server_core.specs.Meaning.{Stands, setting_of}
use Rattle.net_history.specs.declared.events.NetEvent.{NetEvent}
use Rattle.net_history.specs.Network.{End, ForClient, ForPair, Made, NetSeen, ServerSeen, brought_at, number_of, taken_at}
use Rattle.net_history.specs.Openings.{IsOpening, WasOpened}
use Rattle.net_history.specs.Report.{accepted_at}
use Rattle.net_history.specs.Steps.{network_of}
use Rattle.net_schedule.specs.declared.servers.MadeFor.{MadeFor}
use Rattle.net_schedule.specs.declared.servers.MadeFor.TheVariants as made_for
use Rattle.net_schedule.specs.Running.{NetKept, ServerKept, WayKept, joins_of, layout_of}

-- an event that waits opens that link at that listener
abbrev pub WaitsToOpen : ℕ → ℕ → List Event → Type 0
WaitsToOpen listener link [] = ⊥
WaitsToOpen listener link (e ∷ events) = IsOpening listener link e ⊎ WaitsToOpen listener link events

abbrev pub IsMadeFor : MadeFor → Made → Type 0
IsMadeFor (made_for.Client listener) ForClient = ⊤
IsMadeFor made_for.Pair (ForPair other) = ⊤
IsMadeFor made other = ⊥

-- a server is kept as it is in the model, where these events come before those that wait
pub record Keeps (rest : List Event) (server : ServerKept) (s : ServerSeen) : Type 0 where
  pub setting : setting_of server.core.conf ≡ s.setting
  -- no lines are cast to its links
  pub plain : s.setting.downs ≡ []
  pub stands : Stands server.core s.history
  pub listens : server.listens ≡ s.setting.listens
  pub arrivals : server.arrivals ≡ s.arrivals
  pub made : AllZip IsMadeFor server.made s.made
  pub opened : (place listener : ℕ) → slice_get server.made place ≡ Some (made_for.Client listener)
      → WasOpened listener (place + 1) s.history ⊎ WaitsToOpen listener (place + 1) (rest ++ s.arrivals)
  pub dialled : server.dialled ≡ s.dialled
  pub casts : casts_to_peer s.history 0 ≡ map ended_line server.casts
  pub accepted : server.accepted ≡ accepted_at s

-- with what was brought to each end, or waits there, and what was taken there: the rest is on its way
abbrev pub IsOnItsWay : (brought taken : End → List ℕ) → Option WayKept → Type 0
IsOnItsWay brought taken None = ⊤
IsOnItsWay brought taken (Some way) = (brought way.high ++ way.up ≡ taken way.low) × (brought way.low ++ way.down ≡ taken way.high)

abbrev pub brought_in : NetSeen → End → List ℕ
brought_in n end = brought_at (slice_get n.servers end.server) (number_of end)

abbrev pub taken_in : NetSeen → End → List ℕ
taken_in n end = taken_at (slice_get n.servers end.server) (number_of end)

-- the servers and pairs, where so much was brought to each end
pub record Goes (brought : End → List ℕ) (kept : List ServerKept) (ways : List (Option WayKept)) (n : NetSeen) : Type 0 where
  pub servers : AllZip (Keeps []) kept n.servers
  pub joins : joins_of ways ≡ n.pairs
  pub flows : Each (IsOnItsWay brought (taken_in n)) ways

-- each server is kept so, but one for which these events come before those that wait
abbrev pub AllKeep : ℕ → List Event → List ServerKept → List ServerSeen → Type 0
AllKeep number rest [] [] = ⊤
AllKeep number rest [] (s ∷ ss) = ⊥
AllKeep number rest (kept ∷ servers) [] = ⊥
AllKeep zero rest (kept ∷ servers) (s ∷ ss) = Keeps rest kept s × AllZip (Keeps []) servers ss
AllKeep (suc number) rest (kept ∷ servers) (s ∷ ss) = Keeps [] kept s × AllKeep number rest servers ss

-- within a round of one of the servers
pub record Turns (number : ℕ) (rest : List Event) (brought : End → List ℕ) (kept : List ServerKept) (ways : List (Option WayKept)) (n : NetSeen) : Type 0 where
  pub servers : AllKeep number rest kept n.servers
  pub joins : joins_of ways ≡ n.pairs
  pub flows : Each (IsOnItsWay brought (taken_in n)) ways

abbrev pub IsNetwork : NetKept → NetSeen → Type 0
IsNetwork net n = Goes (brought_in n) net.servers net.ways n

abbrev pub StandsFor : NetKept → List NetEvent → Type 0
StandsFor net steps = IsNetwork net (network_of (layout_of net) steps)
