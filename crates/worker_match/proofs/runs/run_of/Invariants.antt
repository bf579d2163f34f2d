use Rattle.worker_match.proofs.RunLemmas.{IsBegun}
use Rattle.worker_match.proofs.runs.run_of.Given as goal

abbrev pub invariant-loop-offer : goal.invariant-loop-offer
invariant-loop-offer l = IsBegun l.offers l.offer-index l.draft
