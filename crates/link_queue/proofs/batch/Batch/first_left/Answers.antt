use Rattle.std.proofs.Common.{◌≡◌, ◌+◌, arith}
use Rattle.link_queue.proofs.BatchLemmas.{left_between}
use Rattle.link_queue.proofs.batch.Batch.first_left.Goals as goal

pub returns-clause-left : goal.returns-clause-left
returns-clause-left c =
    let low = c.loop-high.low in
    let high = c.loop-high.high in
    let is = c.loop-high.invariant in
    let next : high ≡ low + 1 = omega (arith, is.1) in
    left_between c.args.self.now c.args.from low high c.args.to c.args.taken c.size-2.result is.0 (omega arith) c.requires.run.1 next
    c.size-2.ensures.size (omega arith) is.4
