use Rattle.std.proofs.Common.{◌^◌, sym, ◌∙◌}
use Rattle.served_links.proofs.PlaceLemmas.{none_here, place_left, place_stays}
use Rattle.served_links.proofs.links.place_here_near.Goals as goal

pub returns-in-Some : goal.returns-in-Some
returns-in-Some c = place_stays c.args.number (2 ^ 32) c.args.links.now c.requires c.in-Some.place c.index-links-place.result c.in-Some.ensures c.index-links-place.is (sym c.is_here.ensures ∙ c.if-is_here.true)

pub returns-in_default : goal.returns-in_default
returns-in_default c = place_left c.args.number (2 ^ 32) c.args.links.now c.requires c.in-Some.place c.index-links-place.result c.in-Some.ensures c.index-links-place.is (sym c.is_here.ensures ∙ c.if-is_here.false)

pub returns-in_default-2 : goal.returns-in_default-2
returns-in_default-2 c = none_here c.args.number c.args.links.now c.in_default.ensures
