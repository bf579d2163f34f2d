use Rattle.filter_lang.proofs.NameLemmas.{names_end}
use Rattle.filter_lang.proofs.names.names.Goals as goal

pub returns : goal.returns
returns c = names_end c.args.text.now c.loop-rest.list.items (rw c.in_default.is at c.loop-rest.invariant)
