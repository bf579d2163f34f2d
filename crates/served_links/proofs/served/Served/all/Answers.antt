use Rattle.std.proofs.Common.{◌≡◌, subst, IfOk, List, ℕ}
use Rattle.served_links.specs.Links.{numbers}
use Rattle.served_links.proofs.ServedLemmas.{numbers_same}
use Rattle.served_links.proofs.ServedSteps.{asked}
use Rattle.served_links.proofs.served.Served.all.Goals as goal

pub returns : goal.returns
returns c =
    subst (λ (all : List ℕ). IfOk c.all.result (λ v. v.items ≡ all)) (asked c.self.inside c.self.view_is c.self.invariant.0.match c.as_slice.ensures.value numbers (numbers_same))
    c.all.ensures
