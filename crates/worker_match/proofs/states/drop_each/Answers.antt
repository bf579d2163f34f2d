use Rattle.std.proofs.Common.{rules}
use Rattle.std.proofs.lemmas.Fn.{filter_same}
use Rattle.worker_match.specs.Feeds.{is_other}
use Rattle.worker_match.proofs.states.drop_each.Goals as goal

pub returns : goal.returns
returns c = filter_same _ (is_other c.args.numbers.now) _ (λ x b q call. (search rules, search rules)) _ _ c.retain.ensures.filtered
