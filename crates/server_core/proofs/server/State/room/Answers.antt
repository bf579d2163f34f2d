use Rattle.std.proofs.Common.{map, subst, sym, refl}
use Rattle.served_links.specs.Changes.{at_link, with_room}
use Rattle.server_core.specs.Steps.{Walks}
use Rattle.server_core.proofs.CoreLemmas.{kept_at, walks_roomed, walks_no_room}
use Rattle.server_core.proofs.server.State.room.Goals as goal

pub invariant_of-self : goal.invariant_of-self
invariant_of-self c = rw c.give_room.ensures (kept_at _ c.args.number with_room (map (at_link c.args.number with_room) c.self.inside.links.links) (λ link. refl) refl c.self.invariant)

pub returns-clause-live : goal.returns-clause-live
returns-clause-live c = λ t walks live. rw c.give_room.ensures (walks_roomed _ t (subst (λ core. Walks core t) (sym c.self.view_is) walks) c.args.number (map (at_link c.args.number with_room) c.self.inside.links.links) refl)

pub returns-clause-dead : goal.returns-clause-dead
returns-clause-dead c = λ t walks dead. rw c.give_room.ensures (walks_no_room _ t (subst (λ core. Walks core t) (sym c.self.view_is) walks) c.args.number (map (at_link c.args.number with_room) c.self.inside.links.links) dead refl)
