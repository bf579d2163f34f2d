use Rattle.std.proofs.Common.{◌∙◌}
use Rattle.q_construct.proofs.PathLemmas.{among_calls}
use Rattle.q_construct.proofs.paths.has_call.Goals as goal

pub returns : goal.returns
returns c = c.any_has_call.ensures ∙ among_calls c.args.call.now c.args.vias.now
