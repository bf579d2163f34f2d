use Rattle.std.proofs.Common.{◌≡◌, ◌*◌, ◌≤◌, length, take}
use Rattle.std.specs.List.{flat_map}
use Rattle.tnc2_line.specs.Packet.{with_comma}
use Rattle.q_construct.proofs.rule.path_len.Given as goal

abbrev pub invariant-loop-via : goal.invariant-loop-via
invariant-loop-via l = (l.len ≡ length (flat_map with_comma (take l.via-index l.vias))) × (l.len ≤ 11 * l.via-index)
