use Rattle.std.proofs.Common.{[], ap, subst, sym, ◌∙◌, unwrap_or}
use Rattle.std.specs.List.{list_any}
use Rattle.filter_eval.specs.Passes.{is_text}
use Rattle.heard_routing.specs.Listed.{ListsExactly, without_each}
use Rattle.heard_routing.proofs.ListedLemmas.{all_without, listed_forgotten}
use Rattle.heard_routing.proofs.groups.forget.Goals as goal

pub returns-in-Some-clause-kept : goal.returns-in-Some-clause-kept
returns-in-Some-clause-kept c = λ once all.
    let groups = c.args.table.now.entries in
    c.remove_each.ensures.removed ∙ ap (λ calls. without_each c.args.link calls groups) c.as_slice.ensures
    ∙ all_without c.args.link c.in-Some.calls groups once (λ call has. ap (λ o. list_any (is_text call) (unwrap_or o [])) c.in-Some.ensures.value ∙ all c.args.link call has)

pub returns-in-Some-clause-lists : goal.returns-in-Some-clause-lists
returns-in-Some-clause-lists c = λ once exact.
    let after = c.swap_remove.new.self.entries in
    subst (ListsExactly after) (sym (returns-in-Some-clause-kept c once (λ link call has. exact link call ∙ has)))
    (listed_forgotten c.args.link c.args.listed.now.entries after c.args.table.now.entries c.swap_remove.ensures.updates.0 exact)

pub returns-in_default-clause-kept : goal.returns-in_default-clause-kept
returns-in_default-clause-kept c = λ once all.
    all_without c.args.link [] c.args.table.now.entries once
    (λ call has. ap (λ o. list_any (is_text call) (unwrap_or o [])) c.in_default.ensures.value ∙ all c.args.link call has)
