use Rattle.net_script.proofs.LayoutLemmas.{laid_out, limits, wired}
use Rattle.net_script.proofs.SoundLemmas.{scripts_keep}
use Rattle.net_script.proofs.laws.scripts_ask_for_networks.Goals as goal

pub returns-clause-limits : goal.returns-clause-limits
returns-clause-limits c = λ text script e. limits script (scripts_keep text script e)

pub returns-clause-laid_out : goal.returns-clause-laid_out
returns-clause-laid_out c = λ text script e. laid_out script (scripts_keep text script e)

pub returns-clause-wired : goal.returns-clause-wired
returns-clause-wired c = λ text script e. wired script (scripts_keep text script e)
