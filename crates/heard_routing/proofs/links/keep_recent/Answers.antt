use Rattle.std.proofs.Common.{rules}
use Rattle.std.proofs.lemmas.Fn.{filter_same}
use Rattle.heard_routing.specs.Heard.{is_recent_entry}
use Rattle.heard_routing.proofs.links.keep_recent.Goals as goal

pub returns : goal.returns
returns c = filter_same _ (is_recent_entry c.args.age c.args.now) _ (λ x b p h. search rules) _ _ c.retain.ensures.filtered
