use Rattle.aprs_history.proofs.AcceptingLemmas.{packets_come_from_lines}
use Rattle.aprs_history.proofs.laws.packets_come_from_lines.Goals as goal

pub returns : goal.returns
returns c = packets_come_from_lines
