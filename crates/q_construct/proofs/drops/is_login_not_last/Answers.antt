use Rattle.std.proofs.Common.{◌∙◌}
use Rattle.q_construct.proofs.PathLemmas.{own_before_last}
use Rattle.q_construct.proofs.drops.is_login_not_last.Goals as goal

pub returns : goal.returns
returns c = c.any_own.ensures ∙ own_before_last c.args.origin.now c.args.vias.now c.saturating_sub.result c.saturating_sub.ensures
