use Rattle.aprs_history.proofs.BringingLemmas.{links_bring_what_came}
use Rattle.aprs_history.proofs.laws.links_bring_what_came.Goals as goal

pub returns : goal.returns
returns c = links_bring_what_came
