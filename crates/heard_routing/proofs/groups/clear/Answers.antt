use Rattle.std.proofs.Common.{subst}
use Rattle.heard_routing.specs.Listed.{UnlistsEach}
use Rattle.heard_routing.proofs.ListedLemmas.{listed_cleared}
use Rattle.heard_routing.proofs.groups.clear.Goals as goal

pub returns-clause-lists : goal.returns-clause-lists
returns-clause-lists c =
    let call = c.args.call.now in
    let after = c.unlist_each.new.listed.entries in
    listed_cleared call c.args.listed.now.entries after c.args.table.now.entries c.clear.new.table.entries
    (subst (λ links. UnlistsEach links call c.args.listed.now.entries after) c.links_of.ensures c.unlist_each.ensures.unlisted) c.clear.ensures.cleared
