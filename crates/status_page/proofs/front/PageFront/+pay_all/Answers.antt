use Rattle.std.proofs.lemmas.Result.{on_err_weaker}
use Rattle.status_page.proofs.PayingLemmas.{then_some}
use Rattle.status_page.proofs.front.PageFront.+pay_all.Goals as goal

pub returns-in_ok-pay-in-len1-up-clause-some : goal.returns-in_ok-pay-in-len1-up-clause-some
returns-in_ok-pay-in-len1-up-clause-some g t c = on_err_weaker c.pay_all.result (then_some c.args.self.now _ _ _ _ _ c.in-len1-up.len_at_least c.in_ok-pay-in-len1-up.ensures.all) c.pay_all.ensures.some
