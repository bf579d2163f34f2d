use Rattle.std.proofs.Common.{sym}
use Rattle.std.proofs.lemmas.Result.{err_from_is_err_and}
use Rattle.tnc2_line.specs.Packet.{checked_body, parts_of}
use Rattle.tnc2_line.proofs.Steps.{filled, parts_at}
use Rattle.tnc2_line.proofs.reading.fill_parts.Goals as goal

pub returns-in_err-read_path-clause-exact : goal.returns-in_err-read_path-clause-exact
returns-in_err-read_path-clause-exact c =
    let p = err_from_is_err_and c.from_residual-in_err-read_path.result c.from_residual-in_err-read_path.ensures.1 in
    rw (p.1, p.2) (sym (parts_at _ _ _ _ _ _ _ c.bytes.ensures.bytes c.in_ok-head.ensures c.in_ok-source.ensures c.in_err-read_path.ensures))

pub returns-clause-exact : goal.returns-clause-exact
returns-clause-exact c =
    filled c.read_body.result c.read_body.new.body.items (checked_body c.in_ok-head.body.now) (c.in_ok-source.source, c.in_ok-source.dest, c.read_path.new.vias.items) (parts_of c.args.line.now) c.read_body.ensures
    (parts_at _ _ _ _ _ _ _ c.bytes.ensures.bytes c.in_ok-head.ensures c.in_ok-source.ensures c.in_ok-read_path.ensures)
