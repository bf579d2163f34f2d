use Rattle.std.proofs.Common.{◌≡◌, ◌++◌, drop, map, take}
use Rattle.filter_eval.specs.Passes.{fresh}
use Rattle.worker_match.proofs.friends.forget_places.Given as goal

abbrev pub invariant-loop-place : goal.invariant-loop-place
invariant-loop-place l = l.places ≡ map (fresh l.now) (take l.place-index l.initial.places) ++ drop l.place-index l.initial.places
