use Rattle.fixed_distance.proofs.Line.{half_sine_of-rises}
use Rattle.fixed_distance.proofs.half_sine_rises.Goals as goal

pub returns : goal.returns
returns c = half_sine_of-rises
