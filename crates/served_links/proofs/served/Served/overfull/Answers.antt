use Rattle.std.proofs.Common.{◌≡◌, ap, filter, subst, ◌∙◌, IfOk, List, ℕ, sym}
use Rattle.served_links.specs.Links.{is_overfull, numbers}
use Rattle.served_links.proofs.ServedLemmas.{over_same}
use Rattle.served_links.proofs.ServedSteps.{links_of, rests_of}
use Rattle.served_links.proofs.HereLemmas.{joined_whole}
use Rattle.served_links.proofs.served.Served.overfull.Goals as goal

pub overfull-requires : goal.overfull-requires
overfull-requires c = c.self.invariant.1.0 (ap rests_of c.self.view_is ∙ c.requires)

pub returns : goal.returns
returns c =
    subst (λ (all : List ℕ). IfOk c.overfull.result (λ v. v.items ≡ all))
    (over_same c.self.inside.sessions c.self.inside.feeds.links c.self.invariant.0.match ∙ ap (λ links. numbers (filter is_overfull links))
    (sym (joined_whole c.self.inside.sessions c.self.inside.feeds.links c.self.invariant.0.match (c.self.invariant.1.1 (ap rests_of c.self.view_is ∙ c.requires))) ∙ ap links_of c.self.view_is))
    c.overfull.ensures
