use Rattle.aprs_history.proofs.ReachLemmas.{dials_are_of_uplinks, peers_get_submissions, uplinks_get_submissions}
use Rattle.aprs_history.proofs.laws.servers_get_submissions.Goals as goal

pub returns-clause-uplinks : goal.returns-clause-uplinks
returns-clause-uplinks c = uplinks_get_submissions

pub returns-clause-peers : goal.returns-clause-peers
returns-clause-peers c = peers_get_submissions

pub returns-clause-dials : goal.returns-clause-dials
returns-clause-dials c = dials_are_of_uplinks
