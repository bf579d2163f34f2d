use Rattle.aprs_history.proofs.CastingLemmas.{submissions_are_cast}
use Rattle.aprs_history.proofs.laws.submissions_are_cast.Goals as goal

pub returns : goal.returns
returns c = submissions_are_cast
