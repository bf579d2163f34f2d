use Rattle.std.proofs.Common.{◌≡◌, ap, ◌∙◌, refl, subst, IfOk, List, ℕ, filter}
use Rattle.served_links.specs.Links.{is_lost, number_of, numbers}
use Rattle.served_links.proofs.ServedLemmas.{passing_same}
use Rattle.served_links.proofs.ServedSteps.{asked}
use Rattle.served_links.proofs.HereLemmas.{here_and}
use Rattle.served_links.proofs.served.Served.lost.Goals as goal

pub returns : goal.returns
returns c =
    subst (λ (all : List ℕ). IfOk c.lost.result (λ v. v.items ≡ all))
    (ap numbers (here_and is_lost c.as_slice.result.now)
    ∙ asked c.self.inside c.self.view_is c.self.invariant.0.match c.as_slice.ensures.value (λ links. numbers (filter is_lost links))
    (passing_same number_of (λ h s. refl) is_lost (λ h s. refl)))
    c.lost.ensures
