use Rattle.std.proofs.Common.{◌∷◌, [], ◌++◌, ap, ◌∙◌}
use Rattle.net_script.specs.Layouts.{some_uplink}
use Rattle.net_script.proofs.ConfLemmas.{one_more_uplink}
use Rattle.net_script.proofs.confs.some_uplinks.Goals as goal

pub loop-preserved : goal.loop-preserved
loop-preserved c =
    c.in_ok-push.ensures.items
    ∙ ap (λ uplink. c.loop.uplinks.items ++ uplink ∷ []) c.some_uplink.ensures
    ∙ ap (λ uplinks. uplinks ++ some_uplink ∷ []) c.loop.invariant
    ∙ one_more_uplink c.loop.counter
