use Rattle.std.proofs.Common.{rules, subst, sym}
use Rattle.station_table.specs.Entries.{HasEachOnce}
use Rattle.station_table.specs.Last.{AgreesAt, HasExactly}
use Rattle.station_table.proofs.LastSeen.{young_agrees_at, young_exactly}
use Rattle.station_table.proofs.stations.Stations.expire.Goals as goal

pub returns-clause-kept : goal.returns-clause-kept
returns-clause-kept c = search rules

pub returns-clause-last_at : goal.returns-clause-last_at
returns-clause-last_at c = λ before packets early agrees.
    subst (λ table. AgreesAt c.args.now table packets) (sym (returns-clause-kept c))
    (young_agrees_at before c.args.now c.args.self.now packets (subst (λ table. HasEachOnce table.places) c.self.view_is c.self.invariant.0)
    (subst (λ table. HasEachOnce table.gates) c.self.view_is c.self.invariant.1) early agrees)

pub returns-clause-exactly : goal.returns-clause-exactly
returns-clause-exactly c = λ before packets early exactly.
    subst (λ table. HasExactly c.args.now table packets) (sym (returns-clause-kept c))
    (young_exactly before c.args.now c.args.self.now packets (subst (λ table. HasEachOnce table.places) c.self.view_is c.self.invariant.0)
    (subst (λ table. HasEachOnce table.gates) c.self.view_is c.self.invariant.1) early exactly)
