use Rattle.std.proofs.Common.{◌≡◌, ◌^◌, ap, arith, subst, sym, ◌∙◌}
use Rattle.std.proofs.lemmas.Bool.{ltb-true}
use Rattle.served_links.specs.Links.{Rises, number_of, numbers}
use Rattle.served_links.proofs.PlaceLemmas.{last_below}
use Rattle.served_links.proofs.sessions.Sessions.is_below.Goals as goal

pub returns-in-Some : goal.returns-in-Some
returns-in-Some c less =
    let links = c.deref.result.now in
    let link = c.in-Some.link.now in
    let same : links ≡ c.args.self.now = c.deref.ensures.value ∙ c.self.view_is in
    let number = ap number_of c.link.view_is in
    let rises = last_below (2 ^ 32) links link (subst (λ ls. Rises 0 (numbers ls) (2 ^ 32)) (sym same) c.requires) c.in-Some.ensures.value in
    (link.link, subst (λ ls. Rises 0 (numbers ls) link.link) same rises, (let lt = ltb-true c.link.inside.number c.args.number less in omega (arith, number, lt)))
