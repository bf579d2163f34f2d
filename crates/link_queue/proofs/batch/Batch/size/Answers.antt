use Rattle.std.proofs.Common.{◌-◌, arith}
use Rattle.link_queue.proofs.BatchLemmas.{size_between}
use Rattle.link_queue.proofs.LineLemmas.{all_drop, all_take}
use Rattle.link_queue.proofs.batch.Batch.size.Goals as goal

pub overflow_sub-result : goal.overflow_sub-result
overflow_sub-result c = let sum = size_between c.args.self.now c.args.from c.args.to c.requires.0 in omega arith

pub returns-clause-size : goal.returns-clause-size
returns-clause-size c = let sum = size_between c.args.self.now c.args.from c.args.to c.requires.0 in omega arith

pub returns-clause-short : goal.returns-clause-short
returns-clause-short c = rw (← c.self.view_is) (all_take (c.args.to - c.args.from) _ (all_drop c.args.from _ c.self.invariant.short))
