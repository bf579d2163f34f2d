use Rattle.std.proofs.Common.{rules}
use Rattle.http_submit.proofs.OwingLemmas.{turn_taken}
use Rattle.http_submit.proofs.front.HttpFront.next.Goals as goal

pub returns-in-Ok-clause-turn : goal.returns-in-Ok-clause-turn
returns-in-Ok-clause-turn g c =
    turn_taken _ (g.W.Wire.shown c.pay_all.new.inner).told _ _ _ c.in-Ok.event _ (search rules) (search rules) (search rules)
