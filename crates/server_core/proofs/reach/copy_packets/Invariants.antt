use Rattle.std.proofs.Common.{◌≡◌, map, take}
use Rattle.std.specs.Arc.{arc_value}
use Rattle.server_core.proofs.reach.copy_packets.Given as goal

abbrev pub invariant-loop-packet : goal.invariant-loop-packet
invariant-loop-packet l = map arc_value l.copies.items ≡ map arc_value (take l.packet-index l.packets)
