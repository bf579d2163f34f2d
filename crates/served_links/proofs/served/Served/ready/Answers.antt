use Rattle.std.proofs.Common.{◌≡◌, ap, filter, subst, ◌∙◌, IfOk, List, ℕ, sym}
use Rattle.served_links.specs.Fed.{joined_all}
use Rattle.served_links.specs.Links.{is_ready, numbers}
use Rattle.served_links.proofs.ServedSteps.{links_of, rests_of}
use Rattle.served_links.proofs.HereLemmas.{joined_whole}
use Rattle.served_links.proofs.served.Served.ready.Goals as goal

pub ready-requires-clause-settled : goal.ready-requires-clause-settled
ready-requires-clause-settled c = c.self.invariant.1.0 (ap rests_of c.self.view_is ∙ c.requires)

pub returns : goal.returns
returns c =
    subst (λ (all : List ℕ). IfOk c.ready.result (λ v. v.items ≡ all))
    (ap (λ halves. numbers (filter is_ready (joined_all halves c.self.inside.feeds.links))) c.as_slice.ensures.value ∙ ap (λ links. numbers (filter is_ready links))
    (sym (joined_whole c.self.inside.sessions c.self.inside.feeds.links c.self.invariant.0.match (c.self.invariant.1.1 (ap rests_of c.self.view_is ∙ c.requires))) ∙ ap links_of c.self.view_is))
    c.ready.ensures
