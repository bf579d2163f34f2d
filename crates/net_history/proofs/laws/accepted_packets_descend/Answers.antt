use Rattle.net_history.proofs.DescentLemmas.{none_comes_back, packets_descend}
use Rattle.net_history.proofs.laws.accepted_packets_descend.Goals as goal

pub returns-clause-descent : goal.returns-clause-descent
returns-clause-descent c = packets_descend

pub returns-clause-once : goal.returns-clause-once
returns-clause-once c = none_comes_back
