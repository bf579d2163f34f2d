use Rattle.std.proofs.Common.{subst, sym}
use Rattle.heard_routing.specs.Entries.{Rises}
use Rattle.heard_routing.specs.Heard.{is_recent_entry}
use Rattle.heard_routing.proofs.LinkLemmas.{rises_filtered}
use Rattle.heard_routing.proofs.links.Links.keep_recent.Goals as goal

pub invariant_of-self : goal.invariant_of-self
invariant_of-self c = subst Rises (sym c.keep_recent.ensures) (rises_filtered (is_recent_entry c.args.age c.args.now) c.self.inside.entries.items c.self.invariant)
