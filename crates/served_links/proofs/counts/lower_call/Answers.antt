use Rattle.std.proofs.Common.{◌≤◌, ◌<◌, None, Some, ap, arith, refl, subst, sym, unwrap_or, ◌-◌}
use Rattle.std.specs.Prelude.{IsSome}
use Rattle.served_links.specs.Counts.{count_in}
use Rattle.served_links.proofs.CountLemmas.{last_left, lowered, some_left}
use Rattle.served_links.proofs.counts.lower_call.Goals as goal

pub overflow_sub-count : goal.overflow_sub-count
overflow_sub-count c =
    let many = c.if-count_of-lt2.false in
    let is = ap (λ o. unwrap_or o 0) c.in-Some.ensures.value in
    omega (arith, many, is, c.count_of.ensures)

pub returns-then-count_of-lt2 : goal.returns-then-count_of-lt2
returns-then-count_of-lt2 c =
    let few = c.if-count_of-lt2.true in
    let old = c.args.counts.now.entries in
    let less : count_in c.args.call.now old < 2 = omega (arith, few, c.count_of.ensures) in
    lowered c.args.call.now None old c.swap_remove.new.self.entries (last_left c.args.call.now old less) c.swap_remove.ensures.updates.0

pub returns-in-Some : goal.returns-in-Some
returns-in-Some c =
    let some = c.if-count_of-lt2.false in
    let old = c.args.counts.now.entries in
    let many : 2 ≤ count_in c.args.call.now old = omega (arith, some, c.count_of.ensures) in
    let left = c.in-Some.count.now - 1 in
    lowered c.args.call.now (Some left) old (c.get_mut.follows.lender left).entries (some_left c.args.call.now c.in-Some.count.now left old (sym c.in-Some.ensures.value) many refl)
    ((c.get_mut.follows.holds left).3 (subst IsSome c.in-Some.ensures.value refl)).0
