use Rattle.std.proofs.Common.{◌≡◌, take}
use Rattle.q_construct.proofs.rule.put_vias.Given as goal

abbrev pub invariant-loop-via : goal.invariant-loop-via
invariant-loop-via l = l.vias.items ≡ take l.via-index l.path
