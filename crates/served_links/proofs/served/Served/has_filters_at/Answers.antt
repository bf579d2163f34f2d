use Rattle.std.proofs.Common.{false, refl, ◌∙◌}
use Rattle.served_links.specs.Links.{filters_at, filters_kept}
use Rattle.served_links.proofs.ServedLemmas.{picked_same}
use Rattle.served_links.proofs.ServedSteps.{asked}
use Rattle.served_links.proofs.served.Served.has_filters_at.Goals as goal

pub returns : goal.returns
returns c =
    c.has_filters_at.ensures ∙ asked c.self.inside c.self.view_is c.self.invariant.0.match c.as_slice.ensures.value (filters_at c.args.number)
    (picked_same filters_kept (λ h s. refl) false c.args.number)
