use Rattle.served_links.proofs.ServedSteps.{emptied, met_rises, settled_are, settled_seen}
use Rattle.served_links.proofs.served.Served.settle_alone.Goals as goal

pub invariant_of-self : goal.invariant_of-self
invariant_of-self c = settled_are c.settle_alone.result c.self.inside c.settle_alone.new.sessions c.settle_alone.new.feeds c.self.invariant.0 c.settle_alone.ensures.sessions c.settle_alone.ensures.feeds c.settle_alone.ensures.cleared c.self.invariant.1

pub returns-clause-rises : goal.returns-clause-rises
returns-clause-rises c =
    met_rises c.settle_alone.result c.self.inside c.settle_alone.new.sessions c.settle_alone.new.feeds c.self.view_is c.self.invariant.0 (invariant_of-self c).0 c.settle_alone.ensures.sessions c.settle_alone.ensures.cleared

pub returns-clause-ok : goal.returns-clause-ok
returns-clause-ok c = settled_seen c.settle_alone.result c.self.inside c.settle_alone.new.sessions c.settle_alone.new.feeds c.settle_alone.ensures.sessions c.settle_alone.ensures.feeds c.self.view_is

pub returns-clause-err : goal.returns-clause-err
returns-clause-err c = emptied c.settle_alone.result c.self.inside c.settle_alone.new.sessions c.settle_alone.new.feeds c.self.view_is c.settle_alone.ensures.cleared
