use Rattle.std.proofs.Common.{◌≡◌, map, take}
use Rattle.server_core.specs.LinkSteps.{found_in}
use Rattle.server_core.proofs.places.friends_found.Given as goal

abbrev pub invariant-loop-term : goal.invariant-loop-term
invariant-loop-term l = l.at.items ≡ map (found_in l.now l.stations) (take l.term-index l.term-items)
