use Rattle.front_history.proofs.OneViewLemmas.{views_are_one}
use Rattle.front_history.proofs.laws.views_are_one.Goals as goal

pub returns : goal.returns
returns c = views_are_one c.requests_are_read_one_way.ensures.once
