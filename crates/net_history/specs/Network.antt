-- Networks: servers that are joined with one another, what waits for each of them, and what is on its way between them.
use Rattle.std.specs.Prelude.{ℕ, zero, suc, ◌+◌, ◌/◌, ◌%◌, ◌==◌, ◌&&◌, ◌||◌, Bool, true, false, List, [], ◌∷◌, ◌++◌, length, map, drop, Option, Some, None, slice_get, if◌then◌else◌}
use Rattle.std.specs.List.{flat_map}
use Rattle.aprs_base.specs.declared.events.Event.{Event}
use Rattle.aprs_base.specs.declared.texts.Addr.{Addr}
use Rattle.aprs_history.specs.Setting.{Setting}
use Rattle.aprs_history.specs.Trace.{Trace}
use Rattle.aprs_history.specs.History.{History, trace_of}
use Rattle.aprs_history.specs.Rounds.{only_listens}
use Rattle.aprs_history.specs.Arriving.{bytes_for, came_to}
use Rattle.aprs_history.specs.Headline.{taken_bytes}
use Rattle.net_history.specs.declared.events.Pair.{Pair}
use Rattle.net_history.specs.declared.events.PeerPair.{PeerPair}

-- which servers there are, and how they may be joined
pub record Layout : Type 0 where
  pub servers : List Setting
  pub pairs : List Pair
  pub peers : List PeerPair

-- a link of a server, by its place among those that were made there: its number is one more
pub record End : Type 0 where
  pub server : ℕ
  pub place : ℕ

abbrev pub number_of : End → ℕ
number_of end = end.place + 1

-- what a link was made for: a client, or a pair, of which it is the one end
pub data Made : Type 0 where
  ForClient : Made
  ForPair : (other : End) → Made

pub record ServerSeen : Type 0 where
  pub setting : Setting
  pub history : History
  -- what waits for its next round, in order
  pub arrivals : List Event
  -- its links, in the order of their numbers, from 1 on
  pub made : List Made
  -- the uplinks that it dialled and that haven't joined since
  pub dialled : List ℕ

-- a pair that is joined, by its two links
pub record JoinedSeen : Type 0 where
  pub low : End
  pub high : End

pub record NetSeen : Type 0 where
  pub servers : List ServerSeen
  -- how each pair is joined, where it is
  pub pairs : List (Option JoinedSeen)

-- at first every server listens, and no pair is joined
abbrev pub new_server : Setting → ServerSeen
new_server setting = record { setting = setting; history = only_listens setting; arrivals = []; made = []; dialled = [] }

abbrev pub unjoined : Pair → Option JoinedSeen
unjoined pair = None

abbrev pub new_network : Layout → NetSeen
new_network layout = record { servers = map new_server layout.servers; pairs = map unjoined layout.pairs }

abbrev pub trace_at : ServerSeen → Trace
trace_at s = trace_of s.setting s.history

-- the address of a server: 10.0 and its number
abbrev pub address_of : ℕ → Addr
address_of server = record { ip = 10 ∷ 0 ∷ server / 256 ∷ server % 256 ∷ []; port = 1 }

-- ---- changes at one place

abbrev pub changed_at : {X : Type 0} → (X → X) → ℕ → List X → List X
changed_at change n [] = []
changed_at change zero (x ∷ xs) = change x ∷ xs
changed_at change (suc n) (x ∷ xs) = x ∷ changed_at change n xs

abbrev pub at_server : (ServerSeen → ServerSeen) → ℕ → NetSeen → NetSeen
at_server change server n = record n { servers = changed_at change server n.servers }

abbrev pub with_arrival : Event → ServerSeen → ServerSeen
with_arrival e s = record s { arrivals = s.arrivals ++ e ∷ [] }

-- ---- pairs and their ends

abbrev pub is_end : ℕ → ℕ → End → Bool
is_end server link end = end.server == server && number_of end == link

abbrev pub is_of_pair : ℕ → ℕ → JoinedSeen → Bool
is_of_pair server link joined = is_end server link joined.low || is_end server link joined.high

-- the end beyond that link, where a pair is joined by it
abbrev pub end_beyond : ℕ → ℕ → List (Option JoinedSeen) → Option End
end_beyond server link [] = None
end_beyond server link (None ∷ pairs) = end_beyond server link pairs
end_beyond server link (Some joined ∷ pairs) =
    if is_end server link joined.low then Some joined.high
    else if is_end server link joined.high then Some joined.low
    else end_beyond server link pairs

-- no pair is joined by that link any more
abbrev pub parted_at : ℕ → ℕ → Option JoinedSeen → Option JoinedSeen
parted_at server link None = None
parted_at server link (Some joined) = if is_of_pair server link joined then None else Some joined

-- ---- what is on its way

-- the bytes that came on a link, and those that wait for it
abbrev pub brought_at : Option ServerSeen → ℕ → List ℕ
brought_at None link = []
brought_at (Some s) link = came_to s.history link ++ flat_map (bytes_for link) s.arrivals

abbrev pub taken_at : Option ServerSeen → ℕ → List ℕ
taken_at None link = []
taken_at (Some s) link = taken_bytes s.history link

-- from one end to the other: what the one took, but for what has come to the other
abbrev pub flight : NetSeen → End → End → List ℕ
flight n from to = drop (length (brought_at (slice_get n.servers to.server) (number_of to))) (taken_at (slice_get n.servers from.server) (number_of from))

-- up is from the low end to the high one
abbrev pub near_end : Bool → JoinedSeen → End
near_end true joined = joined.low
near_end false joined = joined.high

abbrev pub far_end : Bool → JoinedSeen → End
far_end true joined = joined.high
far_end false joined = joined.low

abbrev pub on_its_way : NetSeen → Bool → JoinedSeen → List ℕ
on_its_way n up joined = flight n (near_end up joined) (far_end up joined)
