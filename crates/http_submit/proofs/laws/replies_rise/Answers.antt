use Rattle.http_submit.proofs.OrderLemmas.{replies_rise}
use Rattle.http_submit.proofs.laws.replies_rise.Goals as goal

pub returns : goal.returns
returns c = replies_rise
