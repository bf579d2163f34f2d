use Rattle.std.proofs.Common.{◌-◌, ap, sym, ◌∙◌}
use Rattle.server_core.proofs.ConfLemmas.{many_serving}
use Rattle.server_core.proofs.conf.group_of.Goals as goal

pub returns : goal.returns
returns c = c.last_serving.ensures ∙ ap (λ many. many - 1) (sym (many_serving c.args.conf.now))
