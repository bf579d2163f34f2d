use Rattle.std.proofs.Common.{Some, [], nat_eq, ap, sym, ◌∙◌, unwrap_or, Result, Ok, Err, OnErr}
use Rattle.std.proofs.lemmas.Map.Steps.{set_value_same}
use Rattle.indexmap.specs.IndexMap.{insert_entry}
use Rattle.indexmap.specs.IndexSet.{insert_key}
use Rattle.filter_eval.specs.Passes.{is_text}
use Rattle.heard_routing.proofs.TableLemmas.{written_there}
use Rattle.heard_routing.proofs.listed.list.Goals as goal

on_err : {A E : Type 0} (result : Result A E) (P : Type 0) → P → OnErr result P
on_err (Ok x) P h = tt
on_err (Err e) P h = h

pub returns-in_err-insert-in-Some-clause-err : goal.returns-in_err-insert-in-Some-clause-err
returns-in_err-insert-in-Some-clause-err c =
    on_err c.from_residual.result _
    ((c.get_mut.follows.holds c.insert.new.self).0
    ∙ set_value_same (nat_eq c.args.link) c.args.listed.now.entries c.insert.new.self (sym c.in-Some.ensures.value ∙ ap (λ calls. Some calls) (sym c.in_err-insert-in-Some.ensures.err)))

pub returns-in_ok-insert-in-Some-clause-ok : goal.returns-in_ok-insert-in-Some-clause-ok
returns-in_ok-insert-in-Some-clause-ok c =
    let listed = c.args.listed.now.entries in
    (c.get_mut.follows.holds c.insert.new.self).0
    ∙ written_there nat_eq c.args.link listed c.in-Some.calls.now c.insert.new.self (sym c.in-Some.ensures.value)
    ∙ ap (λ calls. insert_entry nat_eq listed c.args.link calls) (c.in_ok-insert-in-Some.ensures.ok ∙ ap (λ o. insert_key is_text (unwrap_or o []) c.args.call.now) c.in-Some.ensures.value)
