use Rattle.std.proofs.Common.{false, sym, ◌∙◌}
use Rattle.served_links.specs.Links.{client_kept}
use Rattle.served_links.proofs.HereLemmas.{picked_missing, picked_there}
use Rattle.served_links.proofs.links.is_client_at.Goals as goal

pub returns-in-Some : goal.returns-in-Some
returns-in-Some c =
    c.is_client.ensures
    ∙ sym (picked_there client_kept false c.args.number c.args.links.now c.in-Some.place c.index-links-place.result c.in-Some.ensures c.index-links-place.is)

pub returns-in-None : goal.returns-in-None
returns-in-None c = sym (picked_missing client_kept false c.args.number c.args.links.now c.in-None.ensures)
