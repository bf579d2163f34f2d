use Rattle.status_page.proofs.CountLemmas.{counts_go_on, counts_in_any_order}
use Rattle.status_page.proofs.laws.counts_add_up.Goals as goal

pub returns-clause-pieces : goal.returns-clause-pieces
returns-clause-pieces c = counts_go_on

pub returns-clause-order : goal.returns-clause-order
returns-clause-order c = counts_in_any_order
