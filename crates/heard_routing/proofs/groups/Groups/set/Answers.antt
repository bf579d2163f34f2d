use Rattle.std.proofs.Common.{sym, ◌∙◌}
use Rattle.heard_routing.proofs.EntryLemmas.{once_after}
use Rattle.heard_routing.proofs.groups.Groups.set.Goals as goal

pub invariant_of-self : goal.invariant_of-self
invariant_of-self c = (
  once_after c.set.result c.args.link c.args.call.now c.args.moment c.self.inside.by_call.entries c.set.new.table.entries c.set.ensures.ok c.set.ensures.err c.self.invariant.0,
  c.set.ensures.lists c.self.invariant.1,
  c.set.ensures.hashers.1 ∙ c.self.invariant.2 ∙ sym c.set.ensures.hashers.0,
)
