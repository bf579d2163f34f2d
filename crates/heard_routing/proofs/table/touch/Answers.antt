use Rattle.std.proofs.Common.{Some, [], ap, sym, ◌∙◌, unwrap_or}
use Rattle.std.proofs.lemmas.Map.Steps.{set_value_same}
use Rattle.indexmap.specs.IndexMap.{insert_entry}
use Rattle.filter_eval.specs.Passes.{is_text}
use Rattle.heard_routing.specs.Entries.{with_link}
use Rattle.heard_routing.proofs.TableLemmas.{written_there}
use Rattle.heard_routing.proofs.table.touch.Goals as goal

pub returns-in-Some-clause-set : goal.returns-in-Some-clause-set
returns-in-Some-clause-set c = λ is.
    let groups = c.args.table.now.entries in
    (c.get_mut.follows.holds c.touch.new.self).0
    ∙ written_there is_text c.args.call.now groups c.in-Some.links.now c.touch.new.self (sym c.in-Some.ensures.value)
    ∙ ap (insert_entry is_text groups c.args.call.now) (c.touch.ensures.set is ∙ ap (λ o. with_link c.args.link c.args.moment (unwrap_or o [])) c.in-Some.ensures.value)

pub returns-in-Some-clause-same : goal.returns-in-Some-clause-same
returns-in-Some-clause-same c = λ is.
    (c.get_mut.follows.holds c.touch.new.self).0
    ∙ set_value_same (is_text c.args.call.now) c.args.table.now.entries c.touch.new.self (sym c.in-Some.ensures.value ∙ ap (λ links. Some links) (sym (c.touch.ensures.same is)))
