use Rattle.tnc2_line.proofs.Laws.{filled_sound}
use Rattle.tnc2_line.proofs.reading.read_into.Goals as goal

pub returns-clause-sound : goal.returns-clause-sound
returns-clause-sound c = filled_sound c.fill_parts.result c.fill_parts.new.parts c.args.line.now c.fill_parts.ensures.exact c.fill_parts.ensures.grammar
