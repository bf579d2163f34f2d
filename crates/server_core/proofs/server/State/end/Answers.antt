use Rattle.std.proofs.Common.{filter, subst, sym, ◌∷◌, []}
use Rattle.std.proofs.lemmas.Result.{on_ok_weaker}
use Rattle.served_links.specs.Links.{is_none_of}
use Rattle.server_core.specs.Steps.{Walks}
use Rattle.server_core.proofs.CoreLemmas.{kept_left, left_by, walks_ended, walks_no_end}
use Rattle.server_core.proofs.LeftLemmas.{one_left}
use Rattle.server_core.proofs.server.State.end.Goals as goal

pub invariant_of-self : goal.invariant_of-self
invariant_of-self c =
    kept_left _ c.leave.new.self c.forget.new.self c.end_at.new.self c.self.inside.turned.items c.self.inside.closing.items
    (left_by c.leave.result (is_none_of (c.args.number ∷ [])) c.self.inside.links c.leave.new.self c.self.inside.greatest c.leave.ensures.err c.leave.ensures.ok c.self.invariant.rising) c.self.invariant

pub returns-clause-live : goal.returns-clause-live
returns-clause-live c = λ t walks live.
    let links = filter (is_none_of (c.args.number ∷ [])) c.self.inside.links.links in
    on_ok_weaker c.leave.result
    (λ is. rw is (walks_ended _ t (subst (λ core. Walks core t) (sym c.self.view_is) walks) c.args.number links c.forget.new.self c.end_at.new.self live (one_left c.args.number c.self.inside.links.links) c.forget.ensures.removed
    c.end_at.ensures))
    c.leave.ensures.ok

pub returns-clause-dead : goal.returns-clause-dead
returns-clause-dead c = λ t walks dead.
    let links = filter (is_none_of (c.args.number ∷ [])) c.self.inside.links.links in
    on_ok_weaker c.leave.result
    (λ is. rw is (walks_no_end _ t (subst (λ core. Walks core t) (sym c.self.view_is) walks) c.args.number links c.forget.new.self c.end_at.new.self dead (one_left c.args.number c.self.inside.links.links) c.forget.ensures.removed
    c.end_at.ensures))
    c.leave.ensures.ok
