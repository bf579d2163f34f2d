-- The last that packets told of a call, where they stand in the order in which they came.
use Rattle.std.specs.Prelude.{ℕ, ◌≡◌, List, [], ◌∷◌, Option, Some, None, if◌then◌else◌}
use Rattle.aprs_base.specs.PacketSeen.{PacketSeen}
use Rattle.filter_eval.specs.Passes.{fresh, is_some_and, is_text, is_young}
use Rattle.filter_eval.specs.declared.seen.Seen.{Seen}
use Rattle.station_table.specs.Stations.{StationsSeen, gate_at, gate_in, place_at, seen_in}

-- the later of two, or else the earlier
abbrev pub later_or : {T : Type 0} → Option T → Option T → Option T
later_or earlier None = earlier
later_or earlier (Some x) = Some x

-- the last that packets tell
abbrev pub last_told : {T : Type 0} → (PacketSeen → Option T) → List PacketSeen → Option T
last_told tells [] = None
last_told tells (packet ∷ packets) = later_or (tells packet) (last_told tells packets)

-- where a packet says that this call is
abbrev pub place_by : List ℕ → PacketSeen → Option Seen
place_by call packet = if is_text call packet.parts.source then seen_in packet else None

-- when a packet has this call for its gate
abbrev pub gate_by : List ℕ → PacketSeen → Option ℕ
gate_by call packet = if is_some_and (is_text call) (gate_in packet.parts) then Some packet.moment else None

-- a call's last position
abbrev pub last_place : List PacketSeen → List ℕ → Option Seen
last_place packets call = last_told (place_by call) packets

-- the last moment at which a call was a gate
abbrev pub last_gate : List PacketSeen → List ℕ → Option ℕ
last_gate packets call = last_told (gate_by call) packets

-- a table has the last that these packets told
pub record Agrees (table : StationsSeen) (packets : List PacketSeen) : Type 0 where
  pub place : (call : List ℕ) → place_at table call ≡ last_place packets call
  pub gate : (call : List ℕ) → gate_at table call ≡ last_gate packets call

abbrev pub fresh_gate : ℕ → Option ℕ → Option ℕ
fresh_gate now None = None
fresh_gate now (Some moment) = if is_young now moment then Some moment else None

-- a table has the last that these packets told, as far as that is younger than two days
pub record AgreesAt (now : ℕ) (table : StationsSeen) (packets : List PacketSeen) : Type 0 where
  pub place : (call : List ℕ) → fresh now (place_at table call) ≡ fresh now (last_place packets call)
  pub gate : (call : List ℕ) → fresh_gate now (gate_at table call) ≡ fresh_gate now (last_gate packets call)

-- a table has exactly the last that these packets told, as far as that is younger than two days, and nothing else
pub record HasExactly (now : ℕ) (table : StationsSeen) (packets : List PacketSeen) : Type 0 where
  pub place : (call : List ℕ) → place_at table call ≡ fresh now (last_place packets call)
  pub gate : (call : List ℕ) → gate_at table call ≡ fresh_gate now (last_gate packets call)
