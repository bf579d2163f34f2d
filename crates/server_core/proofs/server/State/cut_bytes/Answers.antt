use Rattle.std.proofs.Common.{◌++◌, map, refl, subst, sym}
use Rattle.aprs_base.specs.Held.{held_after}
use Rattle.served_links.specs.Changes.{at_link, with_bytes}
use Rattle.server_core.specs.Steps.{Walks}
use Rattle.std.proofs.lemmas.Result.{on_ok_weaker}
use Rattle.aprs_history.specs.Links.{brought_by}
use Rattle.server_core.proofs.CoreLemmas.{walks_brought, held_now, held_never, walks_unbrought}
use Rattle.server_core.proofs.server.State.cut_bytes.Goals as goal

pub returns-clause-live : goal.returns-clause-live
returns-clause-live c = λ t walks live.
    let w = subst (λ core. Walks core t) (sym c.self.view_is) walks in
    let links = map (at_link c.args.number (with_bytes c.self.inside.moment (held_after (brought_by t c.args.number ++ c.args.bytes.now)))) c.self.inside.links.links in
    on_ok_weaker c.bring.result (λ new. rw new (walks_brought _ t w c.args.number c.args.bytes.now links c.hear_at.new.self live c.hear_at.ensures refl))
    (c.bring.ensures.links (brought_by t c.args.number) (held_now _ t w c.args.number live))

pub returns-clause-cuts : goal.returns-clause-cuts
returns-clause-cuts c = λ t walks live.
    let w = subst (λ core. Walks core t) (sym c.self.view_is) walks in
    c.bring.ensures.cuts (brought_by t c.args.number) (held_now _ t w c.args.number live)

pub returns-clause-dead : goal.returns-clause-dead
returns-clause-dead c = λ t walks dead.
    let w = subst (λ core. Walks core t) (sym c.self.view_is) walks in
    walks_unbrought _ t w c.args.number c.self.inside.links c.bring.new.self c.hear_at.new.self c.bring.result dead refl
    c.hear_at.ensures
    (c.bring.ensures.nowhere (held_never _ t w c.args.number dead))
