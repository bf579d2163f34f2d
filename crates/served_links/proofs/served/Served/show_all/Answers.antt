use Rattle.std.proofs.Common.{◌≡◌, ap, filter, inl, length, subst, sym, ◌∙◌, OnOk}
use Rattle.std.proofs.lemmas.Result.{on_err_weaker}
use Rattle.std.specs.Arc.{arc_value}
use Rattle.aprs_base.specs.PacketSeen.{PacketSeen}
use Rattle.worker_match.specs.Feeds.{met_by, put_in}
use Rattle.worker_match.specs.Seen.{Came}
use Rattle.served_links.specs.Fed.{joined_all, refused_of}
use Rattle.served_links.specs.Halves.{ServedSeen, more}
use Rattle.served_links.specs.Changes.{takes_shown, with_shown}
use Rattle.served_links.proofs.FedLemmas.{offer_matches}
use Rattle.served_links.proofs.ServedSteps.{emptied, met_are, met_rises, met_seen, more_later, shown_links, shown_put}
use Rattle.served_links.proofs.HereLemmas.{named_shown, none_showing}
use Rattle.served_links.proofs.served.Served.show_all.Goals as goal

abbrev packet : goal.After-come → PacketSeen
packet c = arc_value c.args.packet.now

met : (c : goal.After-come) → OnOk c.come.result (c.come.new.feeds.links ≡ met_by (Came (refused_of (packet c))) c.self.inside.feeds.links)
met c = subst (λ i. OnOk c.come.result (c.come.new.feeds.links ≡ met_by i c.self.inside.feeds.links)) c.in_ok-item.ensures c.come.ensures.links

pub invariant_of-self : goal.invariant_of-self
invariant_of-self c =
    met_are c.come.result c.self.inside c.come.new.sessions c.come.new.feeds (Came (refused_of (packet c))) c.self.invariant.0 (λ h s m. offer_matches h (refused_of (packet c)) s m)
    c.come.ensures.sessions (met c) c.come.ensures.waiting c.come.ensures.cleared c.self.invariant.1

pub returns-clause-rises : goal.returns-clause-rises
returns-clause-rises c =
    met_rises c.come.result c.self.inside c.come.new.sessions c.come.new.feeds c.self.view_is c.self.invariant.0 (invariant_of-self c).0 c.come.ensures.sessions c.come.ensures.cleared

pub returns-clause-ok : goal.returns-clause-ok
returns-clause-ok c =
    let hs = c.self.inside.sessions in
    let ss = c.self.inside.feeds.links in
    let seen = packet c in
    met_seen c.come.result (with_shown seen.from seen.line) (λ (s : ServedSeen). more (length (filter (takes_shown seen.from) s.links)) s.queued)
    c.self.inside c.come.new.sessions c.come.new.feeds (Came (refused_of seen)) (named_shown seen.from seen.line)
    (shown_links seen hs ss c.self.invariant.0.match)
    (ap (λ put. more put c.self.inside.queued) (shown_put seen hs ss c.self.invariant.0.match) ∙ more_later (length (filter (takes_shown seen.from) (joined_all hs ss))) (put_in ss) c.self.inside.queued
    ∙ ap (λ ls. more (length ls) (more (put_in ss) c.self.inside.queued)) (sym (none_showing seen.from (joined_all hs ss))))
    c.come.ensures.sessions (met c) c.come.ensures.waiting c.self.view_is

pub returns-clause-err : goal.returns-clause-err
returns-clause-err c = on_err_weaker c.come.result inl (emptied c.come.result c.self.inside c.come.new.sessions c.come.new.feeds c.self.view_is c.come.ensures.cleared)
