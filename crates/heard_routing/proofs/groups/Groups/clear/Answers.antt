use Rattle.std.proofs.Common.{sym, ◌∙◌}
use Rattle.heard_routing.proofs.EntryLemmas.{once_emptied}
use Rattle.heard_routing.proofs.groups.Groups.clear.Goals as goal

pub invariant_of-self : goal.invariant_of-self
invariant_of-self c = (
  once_emptied c.args.call.now c.self.inside.by_call.entries c.clear.new.table.entries c.clear.ensures.cleared c.self.invariant.0,
  c.clear.ensures.lists c.self.invariant.1,
  c.clear.ensures.hashers.1 ∙ c.self.invariant.2 ∙ sym c.clear.ensures.hashers.0,
)
