use Rattle.std.proofs.Common.{None, refl, ◌∙◌}
use Rattle.served_links.specs.Links.{down_at, down_kept}
use Rattle.served_links.proofs.ServedLemmas.{picked_same}
use Rattle.served_links.proofs.ServedSteps.{asked}
use Rattle.served_links.proofs.served.Served.down.Goals as goal

pub returns : goal.returns
returns c =
    c.down_at.ensures ∙ asked c.self.inside c.self.view_is c.self.invariant.0.match c.as_slice.ensures.value (down_at c.args.number)
    (picked_same down_kept (λ h s. refl) None c.args.number)
