use Rattle.std.proofs.Common.{length}
use Rattle.http_submit.proofs.pool.+owe_late.Given as goal

abbrev pub decreases-owe_late : goal.decreases-owe_late
decreases-owe_late l = length l.waiting.now
