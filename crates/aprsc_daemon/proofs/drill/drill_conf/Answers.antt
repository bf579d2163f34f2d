use Rattle.std.proofs.Common.{ap}
use Rattle.aprs_conf.specs.Grammar.{conf_of}
use Rattle.server_core.specs.Meaning.{setting_of}
use Rattle.aprsc_daemon.proofs.CauseLemmas.{ok_same}
use Rattle.aprsc_daemon.proofs.DrillLemmas.{drill_conf, drill_conf_reads}
use Rattle.aprsc_daemon.proofs.drill.drill_conf.Goals as goal

pub returns-in-Ok-clause-setting : goal.returns-in-Ok-clause-setting
returns-in-Ok-clause-setting c = ap setting_of (ok_same (conf_of _) c.in-Ok.conf drill_conf c.in-Ok.ensures.value drill_conf_reads)
