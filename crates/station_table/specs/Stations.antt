-- Where stations were last seen, and which are gates (aprs-is.net, Server-side Filter Commands).
use Rattle.std.specs.Prelude.{ℕ, ◌==◌, ◌||◌, Bool, List, [], filter, Option, Some, None, option_map, if◌then◌else◌}
use Rattle.std.specs.Str.{byte}
use Rattle.std.specs.Map.{lookup}
use Rattle.std.specs.declared.random_state.RandomState.{RandomState}
use Rattle.indexmap.specs.IndexMap.{insert_entry}
use Rattle.aprs_base.specs.PacketSeen.{PacketSeen}
use Rattle.aprs_base.specs.PartsSeen.{PartsSeen}
use Rattle.aprs_base.specs.declared.packets.Place.{Place}
use Rattle.aprs_body.specs.Classes.{position_bit}
use Rattle.filter_eval.specs.Passes.{entry_of, has_class, is_fresh, is_some_and, is_text, is_young, letter_of}
use Rattle.filter_eval.specs.declared.seen.Seen.{Seen}

-- where calls were last seen, and when they were last gates, in the order in which they first came; and the key of the hasher
pub record StationsSeen : Type 0 where
  pub places : List (List ℕ × Seen)
  pub gates : List (List ℕ × ℕ)
  pub hasher : RandomState

abbrev pub no_stations : RandomState → StationsSeen
no_stations hasher = record { places = []; gates = []; hasher = hasher }

abbrev pub place_at : StationsSeen → List ℕ → Option Seen
place_at table call = lookup (is_text call) table.places

abbrev pub gate_at : StationsSeen → List ℕ → Option ℕ
gate_at table call = lookup (is_text call) table.gates

-- ---- what a packet tells

abbrev pub seen_at : ℕ → Place → Seen
seen_at moment place = record { place = place; moment = moment }

-- where its source is, which only a position says
abbrev pub seen_in : PacketSeen → Option Seen
seen_in packet = if has_class packet.body.class position_bit then option_map (seen_at packet.moment) packet.body.place else None

-- the letters of qAr, qAR and qAo
abbrev pub is_gate_letter : ℕ → Bool
is_gate_letter letter = letter == byte "r" || letter == byte "R" || letter == byte "o"

-- the call right after such a construct
abbrev pub gate_in : PartsSeen → Option (List ℕ)
gate_in parts = if is_some_and is_gate_letter (letter_of parts) then entry_of parts else None

-- ---- what becomes of a table

abbrev pub put_place : List ℕ → Option Seen → List (List ℕ × Seen) → List (List ℕ × Seen)
put_place call None places = places
put_place call (Some seen) places = insert_entry is_text places call seen

abbrev pub put_gate : Option (List ℕ) → ℕ → List (List ℕ × ℕ) → List (List ℕ × ℕ)
put_gate None moment gates = gates
put_gate (Some call) moment gates = insert_entry is_text gates call moment

abbrev pub with_place : PacketSeen → StationsSeen → StationsSeen
with_place packet table = record table { places = put_place packet.parts.source (seen_in packet) table.places }

abbrev pub with_gate : PacketSeen → StationsSeen → StationsSeen
with_gate packet table = record table { gates = put_gate (gate_in packet.parts) packet.moment table.gates }

-- with what the packet tells of its source and of its gate
abbrev pub noted : PacketSeen → StationsSeen → StationsSeen
noted packet table = with_gate packet (with_place packet table)

abbrev pub is_young_place : ℕ → List ℕ × Seen → Bool
is_young_place now entry = is_fresh now entry.1

abbrev pub is_young_gate : ℕ → List ℕ × ℕ → Bool
is_young_gate now entry = is_young now entry.1

-- what is younger than two days
abbrev pub young : ℕ → StationsSeen → StationsSeen
young now table = record table { places = filter (is_young_place now) table.places; gates = filter (is_young_gate now) table.gates }
