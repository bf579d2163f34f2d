use Rattle.net_history.proofs.AcceptanceLemmas.{acceptances_are_apart, none_names_the_server}
use Rattle.net_history.proofs.laws.servers_accept_once.Goals as goal

pub returns-clause-apart : goal.returns-clause-apart
returns-clause-apart c = acceptances_are_apart

pub returns-clause-unnamed : goal.returns-clause-unnamed
returns-clause-unnamed c = none_names_the_server
