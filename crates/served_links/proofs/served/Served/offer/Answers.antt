use Rattle.std.proofs.Common.{[], ap, arith, length, min, sym, take, ◌∙◌, ◌≡◌}
use Rattle.std.proofs.Math.Seq.{take-nil}
use Rattle.std.specs.List.{position}
use Rattle.served_links.specs.Links.{has_that, pending_at}
use Rattle.served_links.proofs.ServedSteps.{links_of, pending_found, pending_nowhere, rests_of, within_feeds, within_halves}
use Rattle.served_links.proofs.served.Served.offer.Goals as goal

pub front_bytes-requires-clause-settled : goal.front_bytes-requires-clause-settled
front_bytes-requires-clause-settled c = c.self.invariant.1.0 (ap rests_of c.self.view_is ∙ c.requires)

pub front_bytes-requires-clause-within : goal.front_bytes-requires-clause-within
front_bytes-requires-clause-within c =
    let hs = c.self.inside.sessions in
    within_feeds c.in-Some.place hs c.self.inside.feeds c.self.invariant.0 (within_halves c.args.number c.in-Some.place hs c.as_slice.result.now c.as_slice.ensures.value c.in-Some.ensures)

pub returns-in-Some-clause-count : goal.returns-in-Some-clause-count
returns-in-Some-clause-count c =
    let link = pending_found c.args.number c.in-Some.place c.self.inside c.as_slice.result.now c.self.view_is c.self.invariant.0 (c.self.invariant.1.1 (ap rests_of c.self.view_is ∙ c.requires)) c.as_slice.ensures.value c.in-Some.ensures in
    c.front_bytes.ensures.count link.0 link.1 ∙ ap (λ bytes. min (length c.args.out.now) (length bytes)) link.2

pub returns-in-Some-clause-bytes : goal.returns-in-Some-clause-bytes
returns-in-Some-clause-bytes c =
    let link = pending_found c.args.number c.in-Some.place c.self.inside c.as_slice.result.now c.self.view_is c.self.invariant.0 (c.self.invariant.1.1 (ap rests_of c.self.view_is ∙ c.requires)) c.as_slice.ensures.value c.in-Some.ensures in
    c.front_bytes.ensures.bytes link.0 link.1 ∙ ap (take (length c.args.out.now)) link.2

-- or none, where there is no such link
nothing : (c : goal.In-None) → pending_at c.args.number c.args.self.now.links ≡ []
nothing c = pending_nowhere c.args.number c.self.inside.sessions c.self.inside.feeds c.self.invariant.0 (c.in-None.ensures ∙ ap (position (has_that c.args.number)) c.as_slice.ensures.value) (c.self.invariant.1.1 (ap rests_of c.self.view_is ∙ c.requires)) c.args.self.now.links (ap links_of c.self.view_is)

pub returns-in-None-clause-count : goal.returns-in-None-clause-count
returns-in-None-clause-count c = let none : length (pending_at c.args.number c.args.self.now.links) ≡ 0 = ap length (nothing c) in omega (arith, none)

pub returns-in-None-clause-bytes : goal.returns-in-None-clause-bytes
returns-in-None-clause-bytes c = sym (ap (take (length c.args.out.now)) (nothing c) ∙ take-nil (length c.args.out.now))
