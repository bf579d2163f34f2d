use Rattle.aprs_conf.specs.Grammar.{conf_of}
use Rattle.net_script.specs.Layouts.{plain_conf}
use Rattle.net_script.proofs.ConfLemmas.{ok_same, plain_reads}
use Rattle.net_script.proofs.confs.plain_conf.Goals as goal

pub returns-in-Ok : goal.returns-in-Ok
returns-in-Ok c = ok_same (conf_of _) c.in-Ok.conf plain_conf c.in-Ok.ensures.value plain_reads
