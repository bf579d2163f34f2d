use Rattle.std.proofs.Common.{ap}
use Rattle.std.specs.Arc.{arc_value}
use Rattle.worker_match.specs.Seen.{ToldAll}
use Rattle.served_links.specs.Halves.{ServedSeen, more}
use Rattle.served_links.specs.Changes.{with_date}
use Rattle.served_links.proofs.FedLemmas.{date_matches}
use Rattle.served_links.proofs.ServedSteps.{dated_links, dated_put, emptied, met_are, met_rises, met_seen}
use Rattle.served_links.proofs.HereLemmas.{named_date}
use Rattle.served_links.proofs.served.Served.tell_all.Goals as goal

pub invariant_of-self : goal.invariant_of-self
invariant_of-self c =
    met_are c.come.result c.self.inside c.come.new.sessions c.come.new.feeds (ToldAll (arc_value c.args.line)) c.self.invariant.0 (λ h s m. date_matches h (arc_value c.args.line) s m)
    c.come.ensures.sessions c.come.ensures.links c.come.ensures.waiting c.come.ensures.cleared c.self.invariant.1

pub returns-clause-rises : goal.returns-clause-rises
returns-clause-rises c =
    met_rises c.come.result c.self.inside c.come.new.sessions c.come.new.feeds c.self.view_is c.self.invariant.0 (invariant_of-self c).0 c.come.ensures.sessions c.come.ensures.cleared

pub returns-clause-ok : goal.returns-clause-ok
returns-clause-ok c =
    let hs = c.self.inside.sessions in
    let ss = c.self.inside.feeds.links in
    met_seen c.come.result (with_date (arc_value c.args.line)) (λ (s : ServedSeen). s.queued) c.self.inside c.come.new.sessions c.come.new.feeds (ToldAll (arc_value c.args.line)) (named_date (arc_value c.args.line))
    (dated_links (arc_value c.args.line) hs ss c.self.invariant.0.match) (ap (λ put. more put c.self.inside.queued) (dated_put (arc_value c.args.line) hs ss c.self.invariant.0.match))
    c.come.ensures.sessions c.come.ensures.links c.come.ensures.waiting c.self.view_is

pub returns-clause-err : goal.returns-clause-err
returns-clause-err c = emptied c.come.result c.self.inside c.come.new.sessions c.come.new.feeds c.self.view_is c.come.ensures.cleared
