use Rattle.aprs_history.proofs.AcceptingLemmas.{none_names_the_server}
use Rattle.aprs_history.proofs.laws.none_names_the_server.Goals as goal

pub returns : goal.returns
returns c = none_names_the_server
