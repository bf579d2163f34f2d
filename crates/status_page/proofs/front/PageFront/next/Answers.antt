use Rattle.std.proofs.Common.{rules}
use Rattle.status_page.proofs.PayingLemmas.{begun_beyond}
use Rattle.status_page.proofs.front.PageFront.next.Goals as goal

pub returns-in_default-clause-some : goal.returns-in_default-clause-some
returns-in_default-clause-some g c =
    begun_beyond c.next-came.result _ (g.W.Wire.shown c.pay_all.new.inner).told _ c.args.self.now c.args.http.now (search rules) (search rules)
