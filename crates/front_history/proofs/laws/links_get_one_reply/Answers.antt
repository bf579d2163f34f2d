use Rattle.front_history.proofs.ViewLemmas.{links_are_paid}
use Rattle.front_history.proofs.laws.links_get_one_reply.Goals as goal

pub returns : goal.returns
returns c = links_are_paid
