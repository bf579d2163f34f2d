use Rattle.std.proofs.Common.{◌∙◌}
use Rattle.server_core.proofs.ConfLemmas.{any_idle}
use Rattle.server_core.proofs.conf.has_down.Goals as goal

pub returns : goal.returns
returns c = c.has_caster.ensures ∙ any_idle c.args.port c.args.listens.now
