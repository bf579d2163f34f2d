use Rattle.aprs_history.proofs.EndLemmas.{links_end_by_rules}
use Rattle.aprs_history.proofs.HeadlineLemmas.{closes_have_reasons, links_take_prefixes, none_hear_themselves}
use Rattle.aprs_history.proofs.laws.runs_keep_the_promise.Goals as goal

pub returns-clause-takes : goal.returns-clause-takes
returns-clause-takes c = links_take_prefixes

pub returns-clause-others : goal.returns-clause-others
returns-clause-others c = none_hear_themselves

pub returns-clause-closes : goal.returns-clause-closes
returns-clause-closes c = closes_have_reasons

pub returns-clause-ends : goal.returns-clause-ends
returns-clause-ends c = links_end_by_rules
