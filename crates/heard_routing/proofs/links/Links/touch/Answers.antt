use Rattle.heard_routing.proofs.LinkLemmas.{touch_rises}
use Rattle.heard_routing.proofs.links.Links.touch.Goals as goal

pub invariant_of-self : goal.invariant_of-self
invariant_of-self c =
    touch_rises c.touch.result c.args.link c.args.moment c.self.inside.entries.items c.touch.new.entries.items (c.touch.ensures.set c.self.invariant) c.touch.ensures.same c.self.invariant
