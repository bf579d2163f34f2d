use Rattle.std.proofs.Common.{ℕ, ap, length, arith}
use Rattle.std.proofs.lemmas.List.{length-append}
use Rattle.std.proofs.lemmas.List.Folds.{length-flat_map-take}
use Rattle.std.proofs.lemmas.Result.{err_from_is_err_and}
use Rattle.tnc2_line.specs.Packet.{with_comma}
use Rattle.tnc2_line.proofs.writing.put_path.Goals as goal

pub returns-in_err-put_element-clause-err : goal.returns-in_err-put_element-clause-err
returns-in_err-put_element-clause-err c =
    let p = err_from_is_err_and c.from_residual.result c.from_residual.ensures.1 in
    let so_far = ap length c.loop-via.invariant in
    let whole = length-flat_map-take with_comma c.args.vias.now c.loop-via.via-index c.via-item.result c.loop-via-test.true in
    let element = ap (λ via. length (with_comma via)) c.via-item.is in
    rw p.1 (omega (arith, length-append {A = ℕ}, so_far, whole, element, c.in_err-put_element.ensures.err))
