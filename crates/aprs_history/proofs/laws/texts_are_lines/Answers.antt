use Rattle.aprs_history.proofs.TextLineLemmas.{texts_are_lines}
use Rattle.aprs_history.proofs.laws.texts_are_lines.Goals as goal

pub returns : goal.returns
returns c = texts_are_lines
