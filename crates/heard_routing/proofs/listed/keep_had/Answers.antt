use Rattle.std.proofs.Common.{rules}
use Rattle.std.proofs.lemmas.Fn.{filter_same}
use Rattle.heard_routing.specs.Listed.{has_call}
use Rattle.heard_routing.proofs.listed.keep_had.Goals as goal

pub returns : goal.returns
returns c = filter_same _ (has_call c.args.table.now.entries c.args.link) _ (λ x b p h. search rules) _ _ c.retain.ensures.filtered
