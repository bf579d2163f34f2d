use Rattle.std.proofs.Common.{◌∙◌, ap, sym}
use Rattle.std.proofs.lemmas.Result.{err_from_is_err_and}
use Rattle.tnc2_line.proofs.Steps.{head_at, with_dest}
use Rattle.tnc2_line.proofs.reading.read_calls.Goals as goal

pub returns-in_err-dest : goal.returns-in_err-dest
returns-in_err-dest c =
    let p = err_from_is_err_and c.from_residual-in_err-dest.result c.from_residual-in_err-dest.ensures.1 in
    rw (p.1, p.2) (head_at _ _ _ _ _ c.in_ok-source.ensures (sym c.in_ok-source-2.ensures) c.first_piece.ensures ∙ ap (with_dest _ _) (sym c.in_err-dest.ensures))

pub returns : goal.returns
returns c = head_at _ _ _ _ _ c.in_ok-source.ensures (sym c.in_ok-source-2.ensures) c.first_piece.ensures ∙ ap (with_dest _ _) (sym c.in_ok-dest.ensures)
