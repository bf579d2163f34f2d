use Rattle.std.proofs.Common.{arith}
use Rattle.std.proofs.lemmas.Grind.{common_steps}
use Rattle.aprs_conf.proofs.PushLemmas.{whole_pieces}
use Rattle.aprs_conf.proofs.writing.ConfText.conf.Goals as goal

pub returns : goal.returns
returns c = rw (whole_pieces c.args.conf.now) (grind (arith, common_steps))
