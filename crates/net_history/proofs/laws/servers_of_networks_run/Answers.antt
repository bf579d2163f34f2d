use Rattle.net_history.proofs.RunLemmas.{servers_run, steps_elsewhere_change_nothing}
use Rattle.net_history.proofs.laws.servers_of_networks_run.Goals as goal

pub returns-clause-run : goal.returns-clause-run
returns-clause-run c = servers_run

pub returns-clause-missing : goal.returns-clause-missing
returns-clause-missing c = steps_elsewhere_change_nothing
