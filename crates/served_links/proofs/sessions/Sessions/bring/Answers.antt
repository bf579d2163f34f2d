use Rattle.served_links.proofs.CountLemmas.{still_right}
use Rattle.served_links.proofs.sessions.Sessions.bring.Goals as goal

pub bring-requires : goal.bring-requires
bring-requires c = rw c.self.view_is c.requires

pub invariant_of-self : goal.invariant_of-self
invariant_of-self c =
    still_right c.bring.new.links.items c.self.inside.links.items c.bring.ensures.named c.bring.ensures.logins c.self.inside.clients c.self.inside.parted c.self.inside.counts.entries c.self.invariant
