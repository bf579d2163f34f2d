use Rattle.std.proofs.Common.{◌+◌, ◌-◌, arith}
use Rattle.std.proofs.lemmas.Slice.{drop-put_mid}
use Rattle.link_queue.proofs.writing.put.Goals as goal

pub returns-clause-rest : goal.returns-clause-rest
returns-clause-rest c =
    let at = c.args.at in
    let end = at + c.min-count.result in
    let count = c.min-count.ensures in
    let same = c.copy_from_slice.auto.self in
    drop-put_mid at (end - at) c.args.out.now c.copy_from_slice.new.self end (omega arith) c.requires (omega arith)
