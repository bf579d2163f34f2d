use Rattle.std.proofs.Common.{rules}
use Rattle.std.proofs.lemmas.Fn.{filter_same}
use Rattle.heard_routing.specs.Entries.{is_another}
use Rattle.heard_routing.proofs.links.remove.Goals as goal

pub returns : goal.returns
returns c = filter_same _ (is_another c.args.link) _ (λ x b p h. search rules) _ _ c.retain.ensures.filtered
