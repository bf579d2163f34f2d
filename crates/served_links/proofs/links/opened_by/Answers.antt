use Rattle.std.proofs.Common.{None, ap, option_map, sym, ◌∙◌}
use Rattle.served_links.specs.Links.{kind_and_from, opening_kept}
use Rattle.served_links.proofs.HereLemmas.{picked_missing, picked_there}
use Rattle.served_links.proofs.links.opened_by.Goals as goal

pub returns-in-Some : goal.returns-in-Some
returns-in-Some c =
    c.opened_by.ensures
    ∙ ap (option_map kind_and_from) (sym (picked_there opening_kept None c.args.number c.args.links.now c.in-Some.place c.index-links-place.result c.in-Some.ensures c.index-links-place.is))

pub returns-in-None : goal.returns-in-None
returns-in-None c = ap (option_map kind_and_from) (sym (picked_missing opening_kept None c.args.number c.args.links.now c.in-None.ensures))
