use Rattle.std.proofs.Common.{arith}
use Rattle.std.proofs.lemmas.Grind.{common_steps}
use Rattle.aprs_position.proofs.MarkLemmas.{mark_from_first}
use Rattle.aprs_position.proofs.marks.from_first.Goals as goal

pub returns-clause-value : goal.returns-clause-value
returns-clause-value c = grind (arith, common_steps, mark_from_first c.args.text.now)
