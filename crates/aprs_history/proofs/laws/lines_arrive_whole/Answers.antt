use Rattle.aprs_history.proofs.ArrivingLemmas.{lines_arrive_whole}
use Rattle.aprs_history.proofs.laws.lines_arrive_whole.Goals as goal

pub returns : goal.returns
returns c = lines_arrive_whole
