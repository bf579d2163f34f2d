use Rattle.front_history.proofs.ViewLemmas.{page_links_are_paid}
use Rattle.front_history.proofs.laws.pages_tell_counts.Goals as goal

pub returns : goal.returns
returns c = page_links_are_paid
