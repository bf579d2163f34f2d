use Rattle.front_history.proofs.OtherLemmas.{none_is_served_there}
use Rattle.front_history.proofs.ViewLemmas.{servers_see_all, servers_see_views}
use Rattle.front_history.proofs.laws.servers_see_views.Goals as goal

pub returns-clause-views : goal.returns-clause-views
returns-clause-views c = servers_see_views

pub returns-clause-all : goal.returns-clause-all
returns-clause-all c = servers_see_all

pub returns-clause-unserved : goal.returns-clause-unserved
returns-clause-unserved c = none_is_served_there
