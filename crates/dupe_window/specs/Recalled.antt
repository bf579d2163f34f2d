-- What is left in a window of the packets that were put into it.
use Rattle.std.specs.Prelude.{ℕ, List, filter, map}
use Rattle.aprs_base.specs.PacketSeen.{PacketSeen}
use Rattle.dupe_window.specs.Keys.{Key, key_of}
use Rattle.dupe_window.specs.Windows.{is_inside_pair}

abbrev pub pair_of : PacketSeen → Key × ℕ
pair_of packet = (key_of packet.parts, packet.moment)

-- of packets in the order in which they came, the key and the moment of those that are less than so many seconds old
abbrev pub recalled : ℕ → ℕ → List PacketSeen → List (Key × ℕ)
recalled seconds now packets = filter (is_inside_pair seconds now) (map pair_of packets)
