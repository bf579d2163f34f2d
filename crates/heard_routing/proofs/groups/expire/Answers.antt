use Rattle.std.proofs.Common.{ap, subst, sym, ◌∙◌}
use Rattle.heard_routing.specs.Listed.{ListsExactly, has_call}
use Rattle.heard_routing.proofs.ListedLemmas.{had_recent, listed_still, nothing_goes}
use Rattle.heard_routing.proofs.groups.expire.Goals as goal

pub returns-then-is_recent-clause-kept : goal.returns-then-is_recent-clause-kept
returns-then-is_recent-clause-kept c = sym (nothing_goes c.args.age c.args.now c.args.table.now.entries (sym c.is_recent.ensures ∙ c.if-is_recent.true))

pub returns-clause-lists : goal.returns-clause-lists
returns-clause-lists c = λ once exact.
    let left = c.keep_recent.new.table.entries in
    subst (λ listed. ListsExactly listed left) (sym c.keep_listed.ensures.kept)
    (listed_still left c.args.listed.now.entries
    (λ link call has.
    exact link call ∙ had_recent c.args.age c.args.now c.args.table.now.entries link call once (sym (ap (λ groups. has_call groups link call) c.keep_recent.ensures.kept) ∙ has)))
