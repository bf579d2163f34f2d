use Rattle.served_links.proofs.ServedSteps.{emptied, met_rises, settled_are, settled_seen}
use Rattle.served_links.proofs.served.Served.settle.Goals as goal

pub invariant_of-self : goal.invariant_of-self
invariant_of-self g c = settled_are c.settle.result c.self.inside c.settle.new.sessions c.settle.new.feeds c.self.invariant.0 c.settle.ensures.sessions c.settle.ensures.feeds c.settle.ensures.cleared c.self.invariant.1

pub returns-clause-rises : goal.returns-clause-rises
returns-clause-rises g c =
    met_rises c.settle.result c.self.inside c.settle.new.sessions c.settle.new.feeds c.self.view_is c.self.invariant.0 (invariant_of-self g c).0 c.settle.ensures.sessions c.settle.ensures.cleared

pub returns-clause-ok : goal.returns-clause-ok
returns-clause-ok g c = settled_seen c.settle.result c.self.inside c.settle.new.sessions c.settle.new.feeds c.settle.ensures.sessions c.settle.ensures.feeds c.self.view_is

pub returns-clause-err : goal.returns-clause-err
returns-clause-err g c = emptied c.settle.result c.self.inside c.settle.new.sessions c.settle.new.feeds c.self.view_is c.settle.ensures.cleared
