use Rattle.std.proofs.Common.{◌≡◌, filter, map, take}
use Rattle.worker_match.specs.Feeds.{is_over, link_of}
use Rattle.worker_match.proofs.states.overfull.Given as goal

abbrev pub invariant-loop-state : goal.invariant-loop-state
invariant-loop-state l = l.numbers.items ≡ map link_of (filter is_over (take l.state-index l.states))
