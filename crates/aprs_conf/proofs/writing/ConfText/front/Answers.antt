use Rattle.std.proofs.Common.{arith}
use Rattle.std.proofs.lemmas.Grind.{common_steps}
use Rattle.aprs_conf.specs.Writing.{line_text}
use Rattle.aprs_conf.proofs.writing.ConfText.front.Goals as goal

pub returns : goal.returns
unfolding line_text
returns c = rw c.in-Some.is (grind (arith, common_steps))
