use Rattle.std.proofs.Common.{length}
use Rattle.status_page.proofs.front.PageFront.+pay_all.Given as goal

abbrev pub decreases-pay_all : goal.decreases-pay_all
decreases-pay_all g l = length l.owed.now
