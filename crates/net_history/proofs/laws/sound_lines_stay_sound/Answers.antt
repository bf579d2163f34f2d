use Rattle.net_history.proofs.TrailLemmas.{accepted_stays_sound, none_accept_again}
use Rattle.net_history.proofs.laws.sound_lines_stay_sound.Goals as goal

pub returns-clause-sound : goal.returns-clause-sound
returns-clause-sound c = accepted_stays_sound

pub returns-clause-once : goal.returns-clause-once
returns-clause-once c = none_accept_again
