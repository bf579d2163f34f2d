use Rattle.fixed_distance.specs.Distance.{half_sine_of}
use Rattle.fixed_distance.proofs.Line.{half_sine_of-bound}
use Rattle.fixed_distance.proofs.half_sine.Goals as goal

pub returns-clause-value : goal.returns-clause-value
unfolding half_sine_of
returns-clause-value c = cc

pub returns-clause-bound : goal.returns-clause-bound
returns-clause-bound c = rw (returns-clause-value c) (half_sine_of-bound c.args.x c.requires)
