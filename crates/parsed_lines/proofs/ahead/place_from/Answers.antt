use Rattle.std.proofs.Common.{◌∙◌, ap, refl, length, Some}
use Rattle.std.proofs.lemmas.Option.{slice_get_read}
use Rattle.std.specs.Cmp.{unsigned_Decides}
use Rattle.std.proofs.lemmas.Slice.Eq.{slice_eq-Decides}
use Rattle.parsed_lines.proofs.ahead.place_from.Goals as goal

pub returns-then-eq : goal.returns-then-eq
returns-then-eq c =
    let same = (slice_eq-Decides unsigned_Decides c.index-lines-place.result c.args.line.now c.eq.result c.eq.ensures).0 c.if-eq.true in
    slice_get_read c.args.lines.now (length c.args.lines.now) c.loop-place.place c.index-lines-place.result refl c.loop-place-test.true c.index-lines-place.is
    ∙ ap Some same
