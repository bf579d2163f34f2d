-- A running network as contracts see it.
use Rattle.std.specs.Prelude.{ℕ, Bool, false, List, ◌++◌, map, Option, Some, None, if◌then◌else◌}
use Rattle.std.specs.Option.{option_map}
use Rattle.aprs_base.specs.declared.events.Event.{Event}
use Rattle.aprs_base.specs.declared.packets.ListenSpec.{ListenSpec}
use Rattle.aprs_history.specs.Setting.{Setting}
use Rattle.server_core.specs.Meaning.{CoreMeaning, setting_of}
use Rattle.net_history.specs.declared.events.Pair.{Pair}
use Rattle.net_history.specs.declared.events.PeerPair.{PeerPair}
use Rattle.net_history.specs.Network.{End, JoinedSeen, Layout, is_end, is_of_pair}
use Rattle.net_schedule.specs.declared.servers.MadeFor.{MadeFor}

-- a server of the network
pub record ServerKept : Type 0 where
  pub core : CoreMeaning
  pub listens : List ListenSpec
  -- what comes with its next round, in order
  pub arrivals : List Event
  -- its links, in the order of their numbers, from 1 on
  pub made : List MadeFor
  -- the uplinks that it dialled and that haven't joined since
  pub dialled : List ℕ
  -- the lines that it cast to each of its peers, and those that it accepted
  pub casts : List (List ℕ)
  pub accepted : List (List ℕ)

-- a pair that is joined: its ends, and the bytes on their way from the low one to the high one, and back
pub record WayKept : Type 0 where
  pub low : End
  pub high : End
  pub up : List ℕ
  pub down : List ℕ

abbrev pub joined_of : WayKept → JoinedSeen
joined_of way = record { low = way.low; high = way.high }

abbrev pub joins_of : List (Option WayKept) → List (Option JoinedSeen)
joins_of ways = map (option_map joined_of) ways

-- a link took bytes: where it is an end of the pair, they are on their way to the other
abbrev pub with_taken : ℕ → ℕ → List ℕ → WayKept → WayKept
with_taken server link bytes way = record way {
  up = if is_end server link way.low then way.up ++ bytes else way.up;
  down = if is_end server link way.high then way.down ++ bytes else way.down;
}

abbrev pub all_with_taken : ℕ → ℕ → List ℕ → List (Option WayKept) → List (Option WayKept)
all_with_taken server link bytes ways = map (option_map (with_taken server link bytes)) ways

-- no pair is joined by that link any more
abbrev pub way_parted_at : ℕ → ℕ → Option WayKept → Option WayKept
way_parted_at server link None = None
way_parted_at server link (Some way) = if is_of_pair server link (joined_of way) then None else Some way

-- the end beyond that link, where the pair is joined by it
abbrev pub beyond : ℕ → ℕ → Option WayKept → Option End
beyond server link None = None
beyond server link (Some way) = if is_end server link way.low then Some way.high else if is_end server link way.high then Some way.low else None

abbrev pub is_joined_by : ℕ → ℕ → Option WayKept → Bool
is_joined_by server link None = false
is_joined_by server link (Some way) = is_of_pair server link (joined_of way)

pub record NetKept : Type 0 where
  pub servers : List ServerKept
  pub pairs : List Pair
  pub peers : List PeerPair
  -- how each pair is joined, where it is
  pub ways : List (Option WayKept)
  pub spent : Bool

abbrev pub setting_in : ServerKept → Setting
setting_in server = setting_of server.core.conf

abbrev pub layout_of : NetKept → Layout
layout_of net = record { servers = map setting_in net.servers; pairs = net.pairs; peers = net.peers }
