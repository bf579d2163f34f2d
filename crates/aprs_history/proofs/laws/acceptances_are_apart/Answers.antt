use Rattle.aprs_history.proofs.AcceptingLemmas.{acceptances_are_apart}
use Rattle.aprs_history.proofs.laws.acceptances_are_apart.Goals as goal

pub returns : goal.returns
returns c = acceptances_are_apart
