use Rattle.std.proofs.Common.{refl, ◌∙◌}
use Rattle.served_links.specs.Links.{has_number, has_that}
use Rattle.served_links.proofs.ServedLemmas.{any_same}
use Rattle.served_links.proofs.ServedSteps.{asked}
use Rattle.served_links.proofs.served.Served.has_link.Goals as goal

pub returns : goal.returns
returns c =
    c.has_link.ensures ∙ asked c.self.inside c.self.view_is c.self.invariant.0.match c.as_slice.ensures.value (has_number c.args.number)
    (any_same (has_that c.args.number) (λ h s. refl))
