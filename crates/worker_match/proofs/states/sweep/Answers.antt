use Rattle.std.proofs.Common.{rules}
use Rattle.std.proofs.lemmas.Fn.{filter_same}
use Rattle.worker_match.specs.Feeds.{is_served}
use Rattle.worker_match.proofs.states.sweep.Goals as goal

pub returns : goal.returns
returns c = filter_same _ is_served _ (λ x b q call. (search rules, search rules)) _ _ c.retain.ensures.filtered
