use Rattle.std.proofs.Common.{Ok, ap, sym, ◌∙◌}
use Rattle.std.specs.Bool.{⊤}
use Rattle.heard_routing.specs.Entries.{with_moment}
use Rattle.heard_routing.proofs.ListedLemmas.{listed_back, listed_new, listed_there}
use Rattle.heard_routing.proofs.groups.set.Goals as goal

pub returns-then-touch-clause-lists : goal.returns-then-touch-clause-lists
returns-then-touch-clause-lists c =
    listed_there {A = ⊤} {E = ⊤} (Ok tt) c.args.listed.now.entries c.args.table.now.entries c.touch.new.table.entries c.args.link c.args.call.now c.args.moment (sym c.touch.ensures.had ∙ c.if-touch.true)
    (c.touch.ensures.set c.if-touch.true) tt

pub returns-in-Ok-clause-lists : goal.returns-in-Ok-clause-lists
returns-in-Ok-clause-lists c =
    listed_new c.args.listed.now.entries c.list.new.listed.entries c.args.table.now.entries c.set.new.table.entries c.args.link c.args.call.now c.args.moment c.in_ok-list.ensures.ok
    (c.in-Ok.ensures.ok ∙ ap (with_moment c.args.link c.args.call.now c.args.moment) (c.touch.ensures.same c.if-touch.false))

pub returns-in-Err-clause-lists : goal.returns-in-Err-clause-lists
returns-in-Err-clause-lists c =
    listed_back c.args.listed.now.entries c.list.new.listed.entries c.unlist.new.listed.entries c.args.table.now.entries c.set.new.table.entries c.args.link c.args.call.now
    (sym c.touch.ensures.had ∙ c.if-touch.false) c.in_ok-list.ensures.ok c.unlist.ensures.unlisted (c.in-Err.ensures.err ∙ c.touch.ensures.same c.if-touch.false)
