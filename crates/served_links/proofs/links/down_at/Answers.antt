use Rattle.std.proofs.Common.{None, sym, ◌∙◌}
use Rattle.served_links.specs.Links.{down_kept}
use Rattle.served_links.proofs.HereLemmas.{picked_missing, picked_there}
use Rattle.served_links.proofs.links.down_at.Goals as goal

pub returns-in-Some : goal.returns-in-Some
returns-in-Some c =
    c.down.ensures
    ∙ sym (picked_there down_kept None c.args.number c.args.links.now c.in-Some.place c.index-links-place.result c.in-Some.ensures c.index-links-place.is)

pub returns-in-None : goal.returns-in-None
returns-in-None c = sym (picked_missing down_kept None c.args.number c.args.links.now c.in-None.ensures)
