use Rattle.std.proofs.Common.{append_assoc}
use Rattle.drill_plan.specs.Drill.{drill_line}
use Rattle.drill_plan.proofs.lines.line_text.Goals as goal

pub returns : goal.returns
unfolding drill_line
returns c =
    simp (c.append-3.ensures, c.append_body.ensures.text, c.append-2.ensures, c.append_number.ensures.text, c.high.ensures, c.append.ensures, c.empty-text.ensures, append_assoc)
