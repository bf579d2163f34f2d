use Rattle.std.proofs.Common.{rules, not}
use Rattle.std.proofs.lemmas.Fn.{filter_same}
use Rattle.http_submit.specs.Pools.{is_link}
use Rattle.http_submit.proofs.pool.drop_link.Goals as goal

pub returns-clause-left : goal.returns-clause-left
returns-clause-left c = filter_same _ (λ w. not (is_link c.args.link w)) _ (λ x b p h. search rules) _ _ c.retain.ensures.filtered
