use Rattle.std.proofs.Common.{sym, arith, ap, ◌∙◌}
use Rattle.std.proofs.lemmas.Int.{ints}
use Rattle.fixed_distance.specs.Distance.{square, half_sine_of}
use Rattle.fixed_distance.proofs.Line.{too_far, is_within_is}
use Rattle.fixed_distance.proofs.within.Goals as goal

pub returns-then-lat_gap-arc : goal.returns-then-lat_gap-arc
returns-then-lat_gap-arc c = sym (too_far _ _ _ _ _ (omega (arith, ints)) (omega (arith, ints)))

pub returns : goal.returns
returns c = is_within_is _ _ _ _ _ _ _ c.haversine.ensures.value (c.square_of.ensures.value ∙ ap square (c.half_sine.ensures.value ∙ ap half_sine_of c.arc-arc.ensures.value))
