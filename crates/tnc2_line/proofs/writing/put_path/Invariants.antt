use Rattle.std.proofs.Common.{◌≡◌, ◌++◌, take}
use Rattle.std.specs.List.{flat_map}
use Rattle.tnc2_line.specs.Packet.{with_comma}
use Rattle.tnc2_line.proofs.writing.put_path.Given as goal

abbrev pub invariant-loop-via : goal.invariant-loop-via
invariant-loop-via l = l.text.items ≡ l.fn.text.items ++ flat_map with_comma (take l.via-index l.vias)
