use Rattle.aprs_conf.proofs.SoundLemmas.{sound_result}
use Rattle.aprs_conf.proofs.reading.read.Goals as goal

pub returns-clause-sound : goal.returns-clause-sound
returns-clause-sound c = sound_result c.args.text.now c.in_ok-read_lines.field-0 c.finish.result c.in_ok-read_lines.ensures c.finish.ensures
