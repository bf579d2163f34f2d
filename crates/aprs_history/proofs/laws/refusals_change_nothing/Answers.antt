use Rattle.aprs_history.proofs.RefusingLemmas.{refusals_change_nothing, refusals_reach_nobody}
use Rattle.aprs_history.proofs.laws.refusals_change_nothing.Goals as goal

pub returns-clause-kept : goal.returns-clause-kept
returns-clause-kept c = refusals_change_nothing

pub returns-clause-texts : goal.returns-clause-texts
returns-clause-texts c = refusals_reach_nobody
