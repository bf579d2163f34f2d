use Rattle.std.proofs.Common.{ap, ◌∙◌, rules, w32}
use Rattle.std.specs.Int.RustNames.{FitsSigned}
use Rattle.std.proofs.lemmas.Int.{to_z-of_z}
use Rattle.fixed_distance.specs.Distance.{square, half_sine_of}
use Rattle.fixed_distance.proofs.Line.{haversine_is}
use Rattle.fixed_distance.proofs.haversine.Goals as goal

pub returns-clause-value : goal.returns-clause-value
returns-clause-value c =
    let lat : FitsSigned w32 c.args.a.now.lat = search rules in
    let lat' : FitsSigned w32 c.args.b.now.lat = search rules in
    let lon : FitsSigned w32 c.args.a.now.lon = search rules in
    let lon' : FitsSigned w32 c.args.b.now.lon = search rules in
    let first = c.square_of.ensures.value ∙ ap square (c.half_sine-2.ensures.value ∙ ap half_sine_of c.requires) in
    rw c.scaled.ensures.value (haversine_is c.args.a.now.lat c.args.a.now.lon c.args.b.now.lat c.args.b.now.lon c.square_of.result c.narrowed-cosines.result c.square_of-across.result first
    (rw (c.narrowed-cosines.ensures.value, c.cosine.ensures.value, c.cosine-2.ensures.value, to_z-of_z w32 _ lat, to_z-of_z w32 _ lat'))
    (rw (c.square_of-across.ensures.value, c.half_sine.ensures.value, c.around.ensures.value, to_z-of_z w32 _ lon, to_z-of_z w32 _ lon')))
