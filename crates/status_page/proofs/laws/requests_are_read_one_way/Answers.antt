use Rattle.status_page.proofs.GetLemmas.{asks_once}
use Rattle.status_page.proofs.laws.requests_are_read_one_way.Goals as goal

pub returns : goal.returns
returns c = asks_once
