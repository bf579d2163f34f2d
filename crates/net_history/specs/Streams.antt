-- What goes between the ends of a pair.
use Rattle.std.specs.Prelude.{◌≡◌, ℕ, ◌+◌, List, ◌++◌, Some, slice_get}
use Rattle.aprs_history.specs.Headline.{taken_bytes}
use Rattle.net_history.specs.declared.events.NetEvent.{NetEvent}
use Rattle.net_history.specs.Network.{End, ForPair, Layout, NetSeen, ServerSeen, brought_at, number_of}
use Rattle.net_history.specs.Steps.{network_of}

-- what a link of a pair has brought, or waits to bring, is a beginning of what the link at the other end took
abbrev pub Streams : NetSeen → Type 0
Streams n = (server place : ℕ) (s other : ServerSeen) (end : End) → slice_get n.servers server ≡ Some s → slice_get s.made place ≡ Some (ForPair end) → slice_get n.servers end.server ≡ Some other
    → (rest : List ℕ) × (taken_bytes other.history (number_of end) ≡ brought_at (Some s) (place + 1) ++ rest)

-- after any steps, each link of a pair has brought, or waits to bring, a beginning of what the link at the other end took
abbrev pub PairsBringWhatWasTaken : Type 0
PairsBringWhatWasTaken = (layout : Layout) (steps : List NetEvent) → Streams (network_of layout steps)
