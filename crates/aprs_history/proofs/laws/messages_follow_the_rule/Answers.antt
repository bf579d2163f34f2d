use Rattle.aprs_history.proofs.HearingLemmas.{heard_is_last_accepted}
use Rattle.aprs_history.proofs.PromiseLemmas.{promises_are_owed}
use Rattle.aprs_history.proofs.laws.messages_follow_the_rule.Goals as goal

pub returns-clause-heard : goal.returns-clause-heard
returns-clause-heard c = heard_is_last_accepted

pub returns-clause-owed : goal.returns-clause-owed
returns-clause-owed c = promises_are_owed
