use Rattle.std.proofs.Common.{◌^◌, ap, sym, ◌∙◌}
use Rattle.aprs_history.specs.Stands.{LinkSeen}
use Rattle.served_links.proofs.PlaceLemmas.{place_found}
use Rattle.served_links.proofs.links.place_near.Goals as goal

pub returns-in-Some : goal.returns-in-Some
returns-in-Some c =
    let link = c.in-Some.link.now in
    let found = c.in-Some.ensures.lookup in
    let number = λ (l : LinkSeen). l.link in
    place_found c.args.number (2 ^ 32) c.args.links.now c.requires c.args.near link found.3.0 (ap number (sym found.1) ∙ sym (ap number c.link.view_is) ∙ c.if-link-number.true)
