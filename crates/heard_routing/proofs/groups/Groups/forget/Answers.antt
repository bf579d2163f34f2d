use Rattle.std.proofs.Common.{sym, ◌∙◌}
use Rattle.heard_routing.specs.Entries.{is_another}
use Rattle.heard_routing.proofs.EntryLemmas.{once_filtered}
use Rattle.heard_routing.proofs.groups.Groups.forget.Goals as goal

pub invariant_of-self : goal.invariant_of-self
invariant_of-self c = (
  once_filtered (is_another c.args.link) c.self.inside.by_call.entries c.forget.new.table.entries
      (c.forget.ensures.kept c.self.invariant.0 (λ link call has. c.self.invariant.1 link call ∙ has)) c.self.invariant.0,
  c.forget.ensures.lists c.self.invariant.0 c.self.invariant.1,
  c.forget.ensures.hashers.1 ∙ c.self.invariant.2 ∙ sym c.forget.ensures.hashers.0,
)
