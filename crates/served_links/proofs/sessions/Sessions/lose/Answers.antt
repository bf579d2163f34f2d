use Rattle.std.proofs.Common.{refl}
use Rattle.served_links.specs.Changes.{when_gone}
use Rattle.served_links.proofs.CountLemmas.{right_at}
use Rattle.served_links.proofs.sessions.Sessions.lose.Goals as goal

pub lose-requires : goal.lose-requires
lose-requires c = rw c.self.view_is c.requires

pub invariant_of-self : goal.invariant_of-self
invariant_of-self c =
    right_at c.args.number when_gone (λ link. refl) (λ link. refl) c.self.inside.links.items c.lose.new.links.items c.lose.ensures c.self.inside.clients c.self.inside.parted c.self.inside.counts.entries c.self.invariant
