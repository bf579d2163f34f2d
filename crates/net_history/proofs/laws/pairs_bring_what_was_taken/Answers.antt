use Rattle.net_history.proofs.StreamLemmas.{pairs_bring_what_was_taken}
use Rattle.net_history.proofs.laws.pairs_bring_what_was_taken.Goals as goal

pub returns : goal.returns
returns c = pairs_bring_what_was_taken
