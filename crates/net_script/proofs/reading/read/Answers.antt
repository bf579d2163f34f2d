use Rattle.net_script.proofs.LayoutLemmas.{lines_keep}
use Rattle.net_script.proofs.reading.read.Goals as goal

pub returns-clause-limits : goal.returns-clause-limits
returns-clause-limits c = lines_keep c.args.text.now c.read_lines.result c.read_lines.ensures
