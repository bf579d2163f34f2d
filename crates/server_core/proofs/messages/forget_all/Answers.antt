use Rattle.std.proofs.Common.{◌+◌, ◌∙◌, ap, drop, sym}
use Rattle.std.proofs.lemmas.List.{drop_more}
use Rattle.server_core.specs.LinkSteps.{forgotten_all}
use Rattle.server_core.proofs.messages.forget_all.Goals as goal

pub loop-link-preserved : goal.loop-link-preserved
loop-link-preserved c =
    ap (forgotten_all (drop (c.loop-link.link-index + 1) c.args.links.now)) c.forget.ensures.removed
    ∙ sym (ap (λ links. forgotten_all links c.loop-link.heard) (drop_more c.args.links.now c.loop-link.link-index 0 c.loop-link-test.true))
    ∙ c.loop-link.invariant
