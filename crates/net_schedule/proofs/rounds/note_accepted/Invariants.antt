use Rattle.std.proofs.Common.{◌≡◌, ◌++◌, map, take}
use Rattle.std.specs.Arc.{arc_value}
use Rattle.aprs_base.specs.PacketSeen.{PacketSeen}
use Rattle.net_schedule.proofs.rounds.note_accepted.Given as goal

abbrev pub invariant-loop-packet : goal.invariant-loop-packet
invariant-loop-packet l = map arc_value l.lines.items ≡ map arc_value l.initial.lines.items ++ map (λ (packet : PacketSeen). packet.line) (map arc_value (take l.packet-index l.packets))
