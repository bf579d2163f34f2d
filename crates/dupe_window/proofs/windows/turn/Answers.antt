use Rattle.std.proofs.Common.{◌∙◌, ap}
use Rattle.dupe_window.specs.Digests.{PairsSeen}
use Rattle.dupe_window.proofs.PartLemmas.{none_in_order}
use Rattle.dupe_window.proofs.windows.turn.Goals as goal

pub returns-clause-order : goal.returns-clause-order
returns-clause-order c = none_in_order c.swap.new.y.pairs (ap (λ (seen : PairsSeen). seen.pairs) (c.swap.ensures.y_after ∙ c.clear.ensures))
