use Rattle.status_page.proofs.OrderLemmas.{pages_rise}
use Rattle.status_page.proofs.laws.pages_rise.Goals as goal

pub returns : goal.returns
returns c = pages_rise
