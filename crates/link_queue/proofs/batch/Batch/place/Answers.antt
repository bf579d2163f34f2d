use Rattle.std.proofs.Common.{length, ap, arith}
use Rattle.link_queue.proofs.batch.Batch.place.Goals as goal

pub overflow_cast-result : goal.overflow_cast-result
overflow_cast-result c = let size = ap length c.self.view_is in omega arith
