use Rattle.std.proofs.Common.{◌≡◌, ap, filter, inl, length, subst, sym, ◌∙◌, OnOk, List}
use Rattle.std.proofs.lemmas.Result.{on_err_weaker}
use Rattle.aprs_history.specs.Stands.{LinkSeen}
use Rattle.worker_match.specs.Feeds.{met_by, put_in}
use Rattle.worker_match.specs.Seen.{OfferSeen, Came}
use Rattle.served_links.specs.Fed.{joined_all, offer_of}
use Rattle.served_links.specs.Halves.{ServedSeen, more}
use Rattle.served_links.specs.Changes.{is_asked_at, takes_packet, with_packet}
use Rattle.served_links.specs.Links.{numbers}
use Rattle.served_links.proofs.FedLemmas.{offer_matches}
use Rattle.served_links.proofs.ServedSteps.{emptied, met_are, met_rises, met_seen, more_later, shared_links, shared_put}
use Rattle.served_links.proofs.HereLemmas.{named_packet, none_taking}
use Rattle.served_links.proofs.served.Served.share.Goals as goal

abbrev offer_to : goal.After-come → List LinkSeen → OfferSeen
offer_to c links = offer_of c.args.packet.now c.args.source.now (numbers (filter (is_asked_at c.args.packet.now c.args.hearers.now c.args.owed.now) links))

abbrev offer : goal.After-come → OfferSeen
offer c = offer_to c c.self.inside.sessions

met : (c : goal.After-come) → OnOk c.come.result (c.come.new.feeds.links ≡ met_by (Came (offer c)) c.self.inside.feeds.links)
met c =
    subst (λ i. OnOk c.come.result (c.come.new.feeds.links ≡ met_by i c.self.inside.feeds.links))
    (c.in_ok-item.ensures.exact ∙ ap (λ links. Came (offer_to c links)) c.as_slice.ensures.value)
    c.come.ensures.links

pub invariant_of-self : goal.invariant_of-self
invariant_of-self c =
    met_are c.come.result c.self.inside c.come.new.sessions c.come.new.feeds (Came (offer c)) c.self.invariant.0 (λ h s m. offer_matches h (offer c) s m)
    c.come.ensures.sessions (met c) c.come.ensures.waiting c.come.ensures.cleared c.self.invariant.1

pub returns-clause-rises : goal.returns-clause-rises
returns-clause-rises c =
    met_rises c.come.result c.self.inside c.come.new.sessions c.come.new.feeds c.self.view_is c.self.invariant.0 (invariant_of-self c).0 c.come.ensures.sessions c.come.ensures.cleared

pub returns-clause-ok : goal.returns-clause-ok
returns-clause-ok c =
    let hs = c.self.inside.sessions in
    let ss = c.self.inside.feeds.links in
    let takes = takes_packet c.args.packet.now c.args.source.now c.args.hearers.now c.args.owed.now in
    let links = joined_all hs ss in
    let n = length (filter takes links) in
    let same = sym (none_taking c.args.packet.now c.args.source.now c.args.hearers.now c.args.owed.now links) in
    met_seen c.come.result (with_packet c.args.packet.now c.args.source.now c.args.hearers.now c.args.owed.now)
    (λ (s : ServedSeen). more (length (filter takes s.links)) s.queued) c.self.inside c.come.new.sessions c.come.new.feeds (Came (offer c)) (named_packet c.args.packet.now c.args.source.now c.args.hearers.now c.args.owed.now)
    (shared_links c.args.packet.now c.args.source.now c.args.hearers.now c.args.owed.now hs ss c.self.invariant.0.match c.self.invariant.0.rising)
    (ap (λ put. more put c.self.inside.queued) (shared_put c.args.packet.now c.args.source.now c.args.hearers.now c.args.owed.now hs ss c.self.invariant.0.match c.self.invariant.0.rising) ∙ more_later n (put_in ss) c.self.inside.queued ∙ ap (λ ls. more (length ls) (more (put_in ss) c.self.inside.queued)) same)
    c.come.ensures.sessions (met c) c.come.ensures.waiting c.self.view_is

pub returns-clause-err : goal.returns-clause-err
returns-clause-err c = on_err_weaker c.come.result inl (emptied c.come.result c.self.inside c.come.new.sessions c.come.new.feeds c.self.view_is c.come.ensures.cleared)
