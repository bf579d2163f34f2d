use Rattle.std.proofs.Common.{◌≡◌, ◌++◌, drop, map, take}
use Rattle.worker_match.specs.Seen.{came_all}
use Rattle.worker_match.specs.Walk.{walked}
use Rattle.worker_match.proofs.workers.walk_links.Given as goal

abbrev pub invariant-loop-link : goal.invariant-loop-link
invariant-loop-link l = l.links ≡ map (walked (came_all l.offers)) (take l.link-index l.initial.links) ++ drop l.link-index l.initial.links
