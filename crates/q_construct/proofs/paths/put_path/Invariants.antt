use Rattle.std.proofs.Common.{◌≡◌, take}
use Rattle.q_construct.proofs.paths.put_path.Given as goal

abbrev pub invariant-loop-via : goal.invariant-loop-via
invariant-loop-via l = l.path.items ≡ take l.via-index l.vias
