use Rattle.std.proofs.Common.{◌≡◌, ap, ◌∙◌, refl, subst, IfOk, List, ℕ, filter}
use Rattle.served_links.specs.Links.{is_late_link, number_of, numbers}
use Rattle.served_links.proofs.ServedLemmas.{passing_same}
use Rattle.served_links.proofs.ServedSteps.{asked}
use Rattle.served_links.proofs.HereLemmas.{here_and}
use Rattle.served_links.proofs.served.Served.late.Goals as goal

pub returns : goal.returns
returns c =
    subst (λ (all : List ℕ). IfOk c.late.result (λ v. v.items ≡ all))
    (ap numbers (here_and (is_late_link c.args.timeouts c.args.now) c.as_slice.result.now)
    ∙ asked c.self.inside c.self.view_is c.self.invariant.0.match c.as_slice.ensures.value (λ links. numbers (filter (is_late_link c.args.timeouts c.args.now) links))
    (passing_same number_of (λ h s. refl) (is_late_link c.args.timeouts c.args.now) (λ h s. refl)))
    c.late.ensures
