use Rattle.std.proofs.Common.{refl, sym, ap, ◌∙◌, ◌++◌, ◌∷◌, [], None}
use Rattle.net_schedule.specs.Joined.{no_way}
use Rattle.net_schedule.proofs.ListLemmas.{same_more}
use Rattle.net_schedule.proofs.joins.unjoined.Goals as goal

pub loop-preserved : goal.loop-preserved
loop-preserved c = c.in_ok-push.ensures.items ∙ ap (λ ways. ways ++ None ∷ []) c.loop.invariant ∙ sym (same_more no_way None (λ pair. refl) c.args.pairs.now c.loop.index c.loop-test.true)
