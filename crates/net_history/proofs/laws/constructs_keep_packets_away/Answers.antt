use Rattle.net_history.proofs.ConstructLemmas.{marked_stay_away, traced_are_named, traced_stay_away}
use Rattle.net_history.proofs.laws.constructs_keep_packets_away.Goals as goal

pub returns-clause-marked : goal.returns-clause-marked
returns-clause-marked c = marked_stay_away

pub returns-clause-named : goal.returns-clause-named
returns-clause-named c = traced_are_named

pub returns-clause-traced : goal.returns-clause-traced
returns-clause-traced c = traced_stay_away
