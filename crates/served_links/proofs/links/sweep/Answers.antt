use Rattle.std.proofs.Common.{rules}
use Rattle.std.proofs.lemmas.Fn.{filter_same}
use Rattle.served_links.specs.Links.{is_here}
use Rattle.served_links.proofs.links.sweep.Goals as goal

pub returns : goal.returns
returns c = filter_same _ is_here _ (λ x b q call. (search rules, search rules)) _ _ c.retain.ensures.filtered
