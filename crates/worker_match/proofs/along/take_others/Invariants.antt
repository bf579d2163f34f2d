use Rattle.std.proofs.Common.{◌≡◌}
use Rattle.worker_match.proofs.OthersLemmas.{IsAround}
use Rattle.worker_match.proofs.along.take_others.Given as goal

abbrev pub invariant-loop-offer : goal.invariant-loop-offer
invariant-loop-offer l = record {
  around : IsAround l.offers l.run.lines l.initial.link l.link l.offer-index l.from l.place;
  number : l.number ≡ l.initial.link.link;
}
