use Rattle.std.proofs.Common.{◌≡◌, ◌++◌, drop, map, take}
use Rattle.worker_match.specs.Feeds.{forgotten}
use Rattle.worker_match.proofs.states.forget_each.Given as goal

abbrev pub invariant-loop-state : goal.invariant-loop-state
invariant-loop-state l = l.states ≡ map (forgotten l.now) (take l.state-index l.initial.states) ++ drop l.state-index l.initial.states
