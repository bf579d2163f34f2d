use Rattle.heard_routing.proofs.LinkLemmas.{set_rises}
use Rattle.heard_routing.proofs.links.Links.set.Goals as goal

pub invariant_of-self : goal.invariant_of-self
invariant_of-self c = set_rises c.set.result c.args.link c.args.moment c.self.inside.entries.items c.set.new.entries.items (c.set.ensures.ok c.self.invariant) c.set.ensures.err c.self.invariant
