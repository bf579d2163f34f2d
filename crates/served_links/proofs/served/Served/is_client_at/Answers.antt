use Rattle.std.proofs.Common.{false, refl, ◌∙◌}
use Rattle.served_links.specs.Links.{client_at, client_kept}
use Rattle.served_links.proofs.ServedLemmas.{picked_same}
use Rattle.served_links.proofs.ServedSteps.{asked}
use Rattle.served_links.proofs.served.Served.is_client_at.Goals as goal

pub returns : goal.returns
returns c =
    c.is_client_at.ensures ∙ asked c.self.inside c.self.view_is c.self.invariant.0.match c.as_slice.ensures.value (client_at c.args.number)
    (picked_same client_kept (λ h s. refl) false c.args.number)
