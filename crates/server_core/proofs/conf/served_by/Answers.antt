use Rattle.std.proofs.Common.{sym, ◌∙◌}
use Rattle.server_core.proofs.ConfLemmas.{kind_serving}
use Rattle.server_core.proofs.conf.served_by.Goals as goal

pub returns : goal.returns
returns c = c.kind_among.ensures ∙ sym (kind_serving c.args.conf.now c.args.listener)
