use Rattle.std.proofs.Common.{ap, refl, subst, ◌∙◌, ◌+◌, Some, cond, unwrap_or}
use Rattle.std.specs.Prelude.{IsSome}
use Rattle.std.specs.Map.{lookup}
use Rattle.q_construct.specs.Rule.{same}
use Rattle.served_links.proofs.CountLemmas.{raised}
use Rattle.served_links.proofs.counts.raise_call.Goals as goal

pub returns-in-Some-clause-ok : goal.returns-in-Some-clause-ok
returns-in-Some-clause-ok c =
    let count = c.in-Some.count.now + 1 in
    raised c.args.call.now c.in-Some.count.now c.args.counts.now.entries (c.get_mut.follows.lender count).entries (ap (λ o. unwrap_or o 0) c.in-Some.ensures.value)
    ((c.get_mut.follows.holds count).3 (subst IsSome c.in-Some.ensures.value refl)).0

pub returns-in_ok-insert-in-None-clause-ok : goal.returns-in_ok-insert-in-None-clause-ok
returns-in_ok-insert-in-None-clause-ok c =
    raised c.args.call.now 0 c.args.counts.now.entries c.insert.new.self.entries (ap (λ o. unwrap_or o 0) c.in-None.ensures.value)
    (λ q. c.in_ok-insert-in-None.ensures.updates.0 q
    ∙ ap (λ table. cond (same c.copy_call.result q) (Some 1) (lookup (same q) table.entries)) c.get_mut.follows.holds-at-none
    ∙ ap (λ text. cond (same text q) (Some 1) (lookup (same q) c.args.counts.now.entries)) c.copy_call.ensures)
