use Rattle.std.proofs.Common.{◌≡◌, [], map, take, drop}
use Rattle.q_construct.specs.Rule.{first_twice}
use Rattle.q_construct.proofs.drops.first_twice.Given as goal

-- none of those so far is there twice
abbrev pub invariant-loop-place : goal.invariant-loop-place
invariant-loop-place l =
    first_twice (map (λ via. via.call) (take l.place l.vias)) (map (λ via. via.call) (drop l.place l.vias)) ≡ first_twice [] (map (λ via. via.call) l.vias)
