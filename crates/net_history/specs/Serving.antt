-- A round of a server in a network: what waits for it comes, it does what is due, and the other servers are told of pairs that part.
use Rattle.std.specs.Prelude.{ℕ, List, [], ◌∷◌, ◌++◌, length, map, Option, Some, None, slice_get}
use Rattle.aprs_base.specs.declared.events.Event.{Event}
use Rattle.aprs_base.specs.declared.events.Event.TheVariants as event
use Rattle.aprs_base.specs.declared.events.Sent.TheVariants as sent
use Rattle.aprs_base.specs.declared.events.Happening.{Happening}
use Rattle.aprs_base.specs.declared.events.Happening.TheVariants as did
use Rattle.aprs_history.specs.Acts.{Act, Listens, Dials, Casts, Offers, SendsLine, Closes, due}
use Rattle.net_history.specs.Network.{End, NetSeen, ServerSeen, at_server, end_beyond, number_of, parted_at, with_arrival}

-- an act is done: an offer is taken whole, and so is a line that goes to a downlink
abbrev pub happening_of : Act → Happening
happening_of (Listens number) = did.Listen number
happening_of (Dials uplink) = did.Dialled uplink
happening_of (Casts peer bytes) = did.Cast peer bytes
happening_of (Offers link bytes) = did.Sent link bytes (sent.Took (length bytes))
happening_of (SendsLine link line) = did.Sent link line (sent.Took (length line))
happening_of (Closes link) = did.Closed link

abbrev pub with_happening : Happening → ServerSeen → ServerSeen
with_happening x s = record s { history = x ∷ s.history }

abbrev pub with_dial : ℕ → ServerSeen → ServerSeen
with_dial uplink s = record s { dialled = s.dialled ++ uplink ∷ [] }

-- an end of a pair that parts is told of it
abbrev pub told_of_end : Option End → NetSeen → NetSeen
told_of_end None n = n
told_of_end (Some end) n = at_server (with_arrival (event.Ended (number_of end))) end.server n

-- what an act does in the network: a dial is open from then on, and a pair parts where its link is closed
abbrev pub with_effect : ℕ → Act → NetSeen → NetSeen
with_effect server (Dials uplink) n = at_server (with_dial uplink) server n
with_effect server (Closes link) n = told_of_end (end_beyond server link n.pairs) (record n { pairs = map (parted_at server link) n.pairs })
with_effect server act n = n

abbrev pub with_act : ℕ → Act → NetSeen → NetSeen
with_act server act n = with_effect server act (at_server (with_happening (happening_of act)) server n)

abbrev pub with_acts : ℕ → List Act → NetSeen → NetSeen
with_acts server [] n = n
with_acts server (act ∷ acts) n = with_acts server acts (with_act server act n)

abbrev pub due_at : Option ServerSeen → List Act
due_at None = []
due_at (Some s) = due s.setting s.history

-- an event comes to a server, which does all that is due then
abbrev pub with_event : ℕ → Event → NetSeen → NetSeen
with_event server e n =
    let after = at_server (with_happening (did.Event e)) server n in
    with_acts server (due_at (slice_get after.servers server)) after

abbrev pub with_all : ℕ → List Event → NetSeen → NetSeen
with_all server [] n = n
with_all server (e ∷ events) n = with_all server events (with_event server e n)

abbrev pub without_arrivals : ServerSeen → ServerSeen
without_arrivals s = record s { arrivals = [] }

abbrev pub arrivals_at : Option ServerSeen → List Event
arrivals_at None = []
arrivals_at (Some s) = s.arrivals

-- all that waits comes, and then the tick
abbrev pub with_round : ℕ → ℕ → NetSeen → NetSeen
with_round server moment n =
    with_all server (arrivals_at (slice_get n.servers server) ++ event.Tick moment ∷ []) (at_server without_arrivals server n)
