use Rattle.std.proofs.Common.{ap, subst, sym, ◌∙◌}
use Rattle.served_links.specs.Counts.{CountsLogins}
use Rattle.served_links.specs.Links.{clients_in, is_whole}
use Rattle.served_links.proofs.CountLemmas.{counted_here}
use Rattle.served_links.proofs.HereLemmas.{here_clients, whole_here}
use Rattle.served_links.proofs.sessions.Sessions.sweep.Goals as goal

pub invariant_of-self : goal.invariant_of-self
invariant_of-self c =
    let links = c.self.inside.links.items in
    let counts = c.self.inside.counts.entries in (
      c.self.invariant.0 ∙ sym (here_clients links) ∙ ap clients_in (sym c.sweep.ensures),
      λ whole. ap is_whole c.sweep.ensures ∙ whole_here links,
      subst (CountsLogins counts) (sym c.sweep.ensures) (counted_here counts links c.self.invariant.2),
    )
