use Rattle.std.proofs.Common.{refl}
use Rattle.served_links.specs.Changes.{with_room}
use Rattle.served_links.proofs.CountLemmas.{right_at}
use Rattle.served_links.proofs.sessions.Sessions.give_room.Goals as goal

pub give_room-requires : goal.give_room-requires
give_room-requires c = rw c.self.view_is c.requires

pub invariant_of-self : goal.invariant_of-self
invariant_of-self c =
    right_at c.args.number with_room (λ link. refl) (λ link. refl) c.self.inside.links.items c.give_room.new.links.items c.give_room.ensures c.self.inside.clients c.self.inside.parted c.self.inside.counts.entries c.self.invariant
