use Rattle.net_script.proofs.LayoutLemmas.{wired}
use Rattle.net_script.proofs.SoundLemmas.{scripts_keep}
use Rattle.net_report.proofs.running.text_of.Goals as goal

pub run_script-requires-clause-wired : goal.run_script-requires-clause-wired
run_script-requires-clause-wired g c κs within = wired c.in_ok-script.script (scripts_keep c.args.text.now c.in_ok-script.script c.in_ok-script.ensures.value)
