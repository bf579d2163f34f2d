use Rattle.std.proofs.Common.{ℕ, List, ◌++◌, ap, ◌∙◌, append_assoc, to_z-of_z}
use Rattle.std.proofs.lemmas.Result.{IfOk-equal}
use Rattle.filter_lang.specs.Canonical.{point_text}
use Rattle.filter_lang.proofs.writing.Canonical.area.Goals as goal

pub returns : goal.returns
returns c =
    let first = rw (to_z-of_z c.ranges.north, to_z-of_z c.ranges.west) at c.in_ok-point.ensures in
    let last = rw (to_z-of_z c.ranges.south, to_z-of_z c.ranges.east) at c.point-2.ensures in
    let second = point_text c.args.south c.args.east in
    IfOk-equal c.point-2.result c.point-2.new.self _ _ last (ap (λ (text : List ℕ). text ++ second) first ∙ append_assoc c.args.self.now (point_text c.args.north c.args.west) second)
