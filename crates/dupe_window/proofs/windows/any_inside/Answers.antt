use Rattle.std.proofs.Common.{◌∙◌, sym}
use Rattle.dupe_window.proofs.PartLemmas.{last_tells, none_tells_any}
use Rattle.dupe_window.proofs.windows.any_inside.Goals as goal

pub returns-in-Some : goal.returns-in-Some
returns-in-Some c = c.is_inside.ensures ∙ sym (last_tells c.args.seconds c.args.now c.args.pairs.now.pairs c.in-Some.moment c.requires.order.1 c.in-Some.ensures)

pub returns-in-None : goal.returns-in-None
returns-in-None c = none_tells_any c.args.seconds c.args.now c.args.pairs.now.pairs c.in-None.ensures
