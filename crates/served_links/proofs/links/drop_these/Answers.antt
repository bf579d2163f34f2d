use Rattle.std.proofs.Common.{rules}
use Rattle.std.proofs.lemmas.Fn.{filter_same}
use Rattle.served_links.specs.Links.{is_none_of}
use Rattle.served_links.proofs.links.drop_these.Goals as goal

pub returns : goal.returns
returns c = filter_same _ (is_none_of c.args.numbers.now) _ (λ x b q call. (search rules, search rules)) _ _ c.retain.ensures.filtered
