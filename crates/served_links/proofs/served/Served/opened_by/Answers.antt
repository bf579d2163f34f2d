use Rattle.std.proofs.Common.{None, ap, option_map, refl, ◌∙◌}
use Rattle.served_links.specs.Links.{kind_and_from, opening_at, opening_kept}
use Rattle.served_links.proofs.ServedLemmas.{picked_same}
use Rattle.served_links.proofs.ServedSteps.{asked}
use Rattle.served_links.proofs.served.Served.opened_by.Goals as goal

pub returns : goal.returns
returns c =
    c.opened_by.ensures ∙ asked c.self.inside c.self.view_is c.self.invariant.0.match c.as_slice.ensures.value (λ links. option_map kind_and_from (opening_at c.args.number links))
    (λ hs ss all. ap (option_map kind_and_from) (picked_same opening_kept (λ h s. refl) None c.args.number hs ss all))
