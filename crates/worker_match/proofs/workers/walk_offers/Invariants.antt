use Rattle.std.proofs.Common.{◌≡◌, drop}
use Rattle.worker_match.specs.Seen.{came_all}
use Rattle.worker_match.specs.Walk.{walked}
use Rattle.worker_match.proofs.workers.walk_offers.Given as goal

abbrev pub invariant-loop-offer : goal.invariant-loop-offer
invariant-loop-offer l = walked (came_all (drop l.offer-index l.offers)) l.link ≡ walked (came_all l.offers) l.initial.link
