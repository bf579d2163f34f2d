use Rattle.std.proofs.Common.{sym, ap, ◌∙◌}
use Rattle.aprs_conf.specs.Arguments.{last_in}
use Rattle.aprs_conf.proofs.LineLemmas.{not_last}
use Rattle.aprs_conf.proofs.arguments.last_octet.Goals as goal

pub returns-in-Some : goal.returns-in-Some
returns-in-Some c = sym (ap last_in c.in-Some.ensures ∙ not_last c.in-Some.field-0.0.now c.in-Some.field-0.1.now)
