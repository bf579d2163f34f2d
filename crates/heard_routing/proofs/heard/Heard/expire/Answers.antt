use Rattle.std.proofs.Common.{◌≡◌, rules, subst, sym}
use Rattle.heard_routing.specs.Entries.{HasEachOnce}
use Rattle.heard_routing.specs.Heard.{courtesies, receivers}
use Rattle.heard_routing.specs.LastHeard.{AgreesAt, HasExactly}
use Rattle.heard_routing.proofs.HeardLemmas.{given_later, recent_agrees_at}
use Rattle.heard_routing.proofs.ExactLemmas.{recent_exactly}
use Rattle.heard_routing.proofs.heard.Heard.expire.Goals as goal

pub returns-clause-kept : goal.returns-clause-kept
returns-clause-kept c = search rules

pub returns-clause-given : goal.returns-clause-given
returns-clause-given c = λ call later h.
    subst (λ table. (receivers table call later ≡ receivers c.args.self.now call later) × (courtesies table call later ≡ courtesies c.args.self.now call later))
    (sym (returns-clause-kept c))
    (given_later c.args.now later c.args.self.now call (subst (λ table. HasEachOnce table.heard) c.self.view_is c.expire.ensures.once)
    (subst (λ table. HasEachOnce table.promises) c.self.view_is c.expire-2.ensures.once) h)

pub returns-clause-last_at : goal.returns-clause-last_at
returns-clause-last_at c = λ before lives packets early agrees.
    subst (λ table. AgreesAt c.args.now lives table packets) (sym (returns-clause-kept c))
    (recent_agrees_at before c.args.now lives c.args.self.now packets (subst (λ table. HasEachOnce table.heard) c.self.view_is c.expire.ensures.once) early agrees)

pub returns-clause-exactly : goal.returns-clause-exactly
returns-clause-exactly c = λ before lives packets early exactly.
    subst (λ table. HasExactly c.args.now lives table packets) (sym (returns-clause-kept c))
    (recent_exactly before c.args.now lives c.args.self.now packets (subst (λ table. HasEachOnce table.heard) c.self.view_is c.expire.ensures.once) early exactly)
