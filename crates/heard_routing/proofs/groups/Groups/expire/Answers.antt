use Rattle.std.proofs.Common.{sym, ◌∙◌}
use Rattle.heard_routing.proofs.EntryLemmas.{once_recent}
use Rattle.heard_routing.proofs.groups.Groups.expire.Goals as goal

pub invariant_of-self : goal.invariant_of-self
invariant_of-self c = (
  once_recent c.args.age c.args.now c.self.inside.by_call.entries c.expire.new.table.entries c.expire.ensures.kept c.self.invariant.0,
  c.expire.ensures.lists c.self.invariant.0 c.self.invariant.1,
  c.expire.ensures.hashers.1 ∙ c.self.invariant.2 ∙ sym c.expire.ensures.hashers.0,
)
