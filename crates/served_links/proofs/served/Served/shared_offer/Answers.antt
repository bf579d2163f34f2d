use Rattle.std.proofs.Common.{IfSome, ap, subst, ◌∙◌, ◌≡◌}
use Rattle.served_links.proofs.ServedSteps.{pending_found, rests_of, within_feeds, within_halves}
use Rattle.served_links.proofs.served.Served.shared_offer.Goals as goal

pub shared_front-requires-clause-settled : goal.shared_front-requires-clause-settled
shared_front-requires-clause-settled c = c.self.invariant.1.0 (ap rests_of c.self.view_is ∙ c.requires)

pub shared_front-requires-clause-within : goal.shared_front-requires-clause-within
shared_front-requires-clause-within c =
    let hs = c.self.inside.sessions in
    within_feeds c.in-Some.place hs c.self.inside.feeds c.self.invariant.0 (within_halves c.args.number c.in-Some.place hs c.as_slice.result.now c.as_slice.ensures.value c.in-Some.ensures)

pub returns-in-Some : goal.returns-in-Some
returns-in-Some c =
    let link = pending_found c.args.number c.in-Some.place c.self.inside c.as_slice.result.now c.self.view_is c.self.invariant.0 (c.self.invariant.1.1 (ap rests_of c.self.view_is ∙ c.requires)) c.as_slice.ensures.value c.in-Some.ensures in
    subst (λ xs. IfSome c.shared_front.result (λ bytes. bytes.now ≡ xs)) link.2 (c.shared_front.ensures link.0 link.1)
