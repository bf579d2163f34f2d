use Rattle.aprsc_daemon.proofs.PortLemmas.{have_ports, seen_of_run}
use Rattle.aprsc_daemon.proofs.laws.runs_are_seen.Goals as goal

pub returns-clause-runs : goal.returns-clause-runs
returns-clause-runs c = seen_of_run

pub returns-clause-ports : goal.returns-clause-ports
returns-clause-ports c = have_ports
