use Rattle.std.proofs.Common.{◌≡◌, drop}
use Rattle.worker_match.specs.Seen.{came_all}
use Rattle.worker_match.specs.Walk.{walked}
use Rattle.worker_match.proofs.AlongLemmas.{IsAlong}
use Rattle.worker_match.proofs.along.walk_along.Given as goal

abbrev pub invariant-loop-offer : goal.invariant-loop-offer
invariant-loop-offer l = record {
  so_far : walked (came_all (drop l.offer-index l.offers)) l.link ≡ walked (came_all l.offers) l.initial.link;
  along : IsAlong l.offers l.run.lines l.offer-index l.place;
}
