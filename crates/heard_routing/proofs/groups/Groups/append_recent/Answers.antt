use Rattle.std.proofs.Common.{subst}
use Rattle.heard_routing.specs.Heard.{IsRisingListOf, has_recent, links_with}
use Rattle.heard_routing.proofs.EntryLemmas.{links_listed}
use Rattle.heard_routing.proofs.groups.Groups.append_recent.Goals as goal

pub returns-clause-links : goal.returns-clause-links
returns-clause-links c =
    subst (λ seen. IsRisingListOf (links_with c.args.age c.args.call.now c.args.now seen.groups) (has_recent c.args.age c.args.now seen.groups c.args.call.now)) c.self.view_is
    (links_listed c.args.age c.args.now c.args.call.now c.self.inside.by_call.entries c.self.invariant.0)
