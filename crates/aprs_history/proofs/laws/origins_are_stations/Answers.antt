use Rattle.aprs_history.proofs.OriginLemmas.{origins_are_stations}
use Rattle.aprs_history.proofs.laws.origins_are_stations.Goals as goal

pub returns : goal.returns
returns c = origins_are_stations
