use Rattle.std.proofs.Common.{arith}
use Rattle.std.proofs.lemmas.Grind.{common_steps}
use Rattle.aprs_position.proofs.PlainLemmas.{blank_after_digits}
use Rattle.aprs_position.proofs.plain.ends_in_blanks.Goals as goal

pub returns : goal.returns
returns c = grind (arith, common_steps, blank_after_digits c.args.text.now)
