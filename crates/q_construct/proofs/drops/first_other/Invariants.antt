use Rattle.std.proofs.Common.{◌≡◌, map, drop}
use Rattle.q_construct.specs.Rule.{first_other}
use Rattle.q_construct.proofs.drops.first_other.Given as goal

-- none of those so far is another's
abbrev pub invariant-loop-via : goal.invariant-loop-via
invariant-loop-via g l =
    first_other l.origin (g.O.Calls.calls l.others) (map (λ via. via.call) (drop l.via-index l.vias)) ≡ first_other l.origin (g.O.Calls.calls l.others) (map (λ via. via.call) l.vias)
