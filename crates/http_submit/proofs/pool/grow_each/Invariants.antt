use Rattle.std.proofs.Common.{◌≡◌, ◌++◌, drop, map, take}
use Rattle.http_submit.specs.Pools.{grown}
use Rattle.http_submit.proofs.pool.grow_each.Given as goal

-- those before this place have grown
abbrev pub invariant-loop-one : goal.invariant-loop-one
invariant-loop-one l = l.waiting ≡ map (grown l.link l.bytes) (take l.one-index l.initial.waiting) ++ drop l.one-index l.initial.waiting
