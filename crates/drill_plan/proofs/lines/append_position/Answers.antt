use Rattle.std.proofs.Common.{append_assoc}
use Rattle.drill_plan.proofs.lines.append_position.Goals as goal

pub returns-clause-text : goal.returns-clause-text
returns-clause-text c =
    simp (c.append-3.ensures, c.append_three_digits.ensures, c.append-2.ensures, c.append_two_digits.ensures, c.high.ensures, c.append.ensures, append_assoc)
