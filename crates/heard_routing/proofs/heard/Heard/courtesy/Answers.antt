use Rattle.std.proofs.Common.{◌≡◌, false, length, nat_lt, ap, subst, sym, ◌∙◌}
use Rattle.heard_routing.specs.Entries.{links_of}
use Rattle.heard_routing.proofs.TableLemmas.{nothing_spent}
use Rattle.heard_routing.proofs.heard.Heard.courtesy.Goals as goal

pub returns-else-has_links-clause-spent : goal.returns-else-has_links-clause-spent
returns-else-has_links-clause-spent c =
    let sender = c.args.sender.now in
    let table = c.args.self.now in
    let none : nat_lt 0 (length (links_of sender table.promises)) ≡ false =
    subst (λ seen. nat_lt 0 (length (links_of sender seen.promises)) ≡ false) c.self.view_is (sym c.has_links.ensures ∙ c.if-has_links.false) in
    ap (λ groups. record table { promises = groups }) (sym (nothing_spent sender table.promises none))
