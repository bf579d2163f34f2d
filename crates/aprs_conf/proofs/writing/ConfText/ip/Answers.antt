use Rattle.std.proofs.Common.{arith}
use Rattle.std.proofs.lemmas.Grind.{common_steps}
use Rattle.aprs_conf.proofs.PushLemmas.{ip_pieces}
use Rattle.aprs_conf.proofs.writing.ConfText.ip.Goals as goal

pub returns : goal.returns
returns c = rw (ip_pieces c.args.ip (omega arith) (omega arith) (omega arith) (omega arith)) (grind (arith, common_steps))
