use Rattle.std.proofs.Common.{arith}
use Rattle.served_links.proofs.HereLemmas.{at_most_one, clients_few}
use Rattle.served_links.proofs.sessions.Sessions.open.Goals as goal

pub overflow_add-self : goal.overflow_add-self
overflow_add-self c =
    let links = c.self.inside.links in
    let few = clients_few links.items in
    let one = at_most_one c.is_inbound.result in
    omega (arith, links.ok.0, links.ok.1, links.small, few, one, c.self.invariant.0, c.from.ensures)
