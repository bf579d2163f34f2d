-- What the steps of a network leave of what is kept of a server, and what is asked of it.
use Rattle.std.specs.Prelude.{ℕ, ◌+◌, ◌-◌, ◌&&◌, Bool, false, not, nat_lt, nat_le, List, [], ◌∷◌, ◌++◌, length, Option, Some, None, slice_get}
use Rattle.aprs_base.specs.declared.events.Event.{Event}
use Rattle.aprs_base.specs.declared.events.Event.TheVariants as event
use Rattle.aprs_base.specs.declared.packets.ListenSpec.{ListenSpec}
use Rattle.aprs_base.specs.declared.texts.Addr.{Addr}
use Rattle.link_queue.specs.Lines.{ended_line}
use Rattle.aprs_history.specs.Setting.{kind_of_spec}
use Rattle.server_core.specs.LinkSteps.{has_number}
use Rattle.net_history.specs.Network.{End, changed_at, number_of}
use Rattle.net_history.specs.Openings.{serves_clients}
use Rattle.net_history.specs.Steps.{but_first_of, login_line}
use Rattle.net_schedule.specs.declared.servers.MadeFor.{MadeFor}
use Rattle.net_schedule.specs.declared.servers.MadeFor.TheVariants as made_for
use Rattle.net_schedule.specs.Running.{ServerKept}

abbrev pub kept_arrival : Event → ServerKept → ServerKept
kept_arrival e kept = record kept { arrivals = kept.arrivals ++ e ∷ [] }

-- a link is made for something, as an event brings it
abbrev pub kept_link : MadeFor → Event → ServerKept → ServerKept
kept_link made e kept = record kept { arrivals = kept.arrivals ++ e ∷ []; made = kept.made ++ made ∷ [] }

abbrev pub next_number : ServerKept → ℕ
next_number kept = length kept.made + 1

abbrev pub kept_client : ℕ → Addr → List ℕ → ServerKept → ServerKept
kept_client listener from call kept =
    kept_arrival (event.Bytes (next_number kept) (ended_line (login_line call))) (kept_link (made_for.Client listener) (event.Opened listener (next_number kept) from) kept)

abbrev pub kept_uplink : ℕ → Addr → ServerKept → ServerKept
kept_uplink uplink at kept = record (kept_link made_for.Pair (event.Joined uplink (next_number kept) at) kept) { dialled = but_first_of uplink kept.dialled }

abbrev pub kept_downlink : ℕ → Addr → ServerKept → ServerKept
kept_downlink listener from kept = kept_link made_for.Pair (event.Opened listener (next_number kept) from) kept

-- an end of a pair that parts is told of it
abbrev pub kept_told : Option End → List ServerKept → List ServerKept
kept_told None servers = servers
kept_told (Some end) servers = changed_at (kept_arrival (event.Ended (number_of end))) end.server servers

-- clients connect to that listener
abbrev pub is_heard_by : Option ListenSpec → Bool
is_heard_by spec = serves_clients (kind_of_spec spec)

-- a link came to such a listener in a round that is finished, and isn't served any more
abbrev pub kept_ended : ℕ → ℕ → ServerKept → Bool
kept_ended listener link kept =
    nat_le link kept.core.seen.greatest && (is_heard_by (slice_get kept.listens listener) && not (has_number link kept.core.seen.links))

abbrev pub kept_speaks : ℕ → ServerKept → Option MadeFor → Bool
kept_speaks link kept (Some (made_for.Client listener)) = not (kept_ended listener link kept)
kept_speaks link kept other = false

abbrev pub kept_may_say : ℕ → ServerKept → Bool
kept_may_say link kept = nat_lt 0 link && kept_speaks link kept (slice_get kept.made (link - 1))

abbrev pub kept_may_open : ℕ → ServerKept → Bool
kept_may_open listener kept = nat_lt listener (length kept.listens) && nat_le (next_number kept) 4294967295
