use Rattle.std.proofs.Common.{None, Some, ap, sym, ◌∙◌}
use Rattle.served_links.specs.Links.{held_kept}
use Rattle.served_links.proofs.HereLemmas.{picked_missing, picked_there}
use Rattle.served_links.proofs.links.cutter_at.Goals as goal

pub returns-in-Some : goal.returns-in-Some
returns-in-Some c =
    ap Some c.cutter.ensures
    ∙ sym (picked_there held_kept None c.args.number c.args.links.now c.in-Some.place c.index-links-place.result c.in-Some.ensures c.index-links-place.is)

pub returns-in-None : goal.returns-in-None
returns-in-None c = sym (picked_missing held_kept None c.args.number c.args.links.now c.in-None.ensures)
