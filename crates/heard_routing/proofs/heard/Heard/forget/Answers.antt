use Rattle.std.proofs.Common.{rules, subst, sym}
use Rattle.heard_routing.specs.LastHeard.{Agrees, AgreesAt, HasExactly, but_not}
use Rattle.heard_routing.proofs.HeardLemmas.{forget_agrees, forget_agrees_at}
use Rattle.heard_routing.proofs.ExactLemmas.{forget_exactly}
use Rattle.heard_routing.proofs.heard.Heard.forget.Goals as goal

pub returns-clause-removed : goal.returns-clause-removed
returns-clause-removed c = search rules

pub returns-clause-last : goal.returns-clause-last
returns-clause-last c = λ lives packets agrees.
    subst (λ table. Agrees (but_not c.args.link lives) table packets) (sym (returns-clause-removed c)) (forget_agrees lives c.args.self.now packets c.args.link agrees)

pub returns-clause-last_at : goal.returns-clause-last_at
returns-clause-last_at c = λ moment lives packets agrees.
    subst (λ table. AgreesAt moment (but_not c.args.link lives) table packets) (sym (returns-clause-removed c)) (forget_agrees_at moment lives c.args.self.now packets c.args.link agrees)

pub returns-clause-exactly : goal.returns-clause-exactly
returns-clause-exactly c = λ moment lives packets exactly.
    subst (λ table. HasExactly moment (but_not c.args.link lives) table packets) (sym (returns-clause-removed c)) (forget_exactly moment lives c.args.self.now packets c.args.link exactly)
