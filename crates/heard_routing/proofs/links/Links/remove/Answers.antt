use Rattle.std.proofs.Common.{subst, sym}
use Rattle.heard_routing.specs.Entries.{Rises, is_another}
use Rattle.heard_routing.proofs.LinkLemmas.{rises_filtered}
use Rattle.heard_routing.proofs.links.Links.remove.Goals as goal

pub invariant_of-self : goal.invariant_of-self
invariant_of-self c = subst Rises (sym c.remove.ensures) (rises_filtered (is_another c.args.link) c.self.inside.entries.items c.self.invariant)
