use Rattle.std.proofs.Common.{rules, Bool, List, length, nat_lt, ◌&&◌, ◌∙◌}
use Rattle.std.specs.List.{list_all}
use Rattle.std.proofs.lemmas.Iterator.Consumers.{YieldsList-from_rest}
use Rattle.std.proofs.lemmas.Iterator.Search.{all_from_yields_List}
use Rattle.std.proofs.lemmas.List.Folds.{list_all-map}
use Rattle.indexmap.specs.IndexMap.{values}
use Rattle.heard_routing.specs.Entries.{Entry}
use Rattle.heard_routing.specs.Heard.{is_recent_entry}
use Rattle.heard_routing.proofs.table.is_recent.Goals as goal

pub returns : goal.returns
returns c =
    let test : List Entry → Bool = λ links. nat_lt 0 (length links) && list_all (is_recent_entry c.args.age c.args.now) links in
    all_from_yields_List test _ _ c.all.result c.all.ensures.ran (YieldsList-from_rest (values c.args.table.now) c.values.ensures.rest) (λ x b q k. search rules)
    ∙ list_all-map test (λ e. e.1) c.args.table.now.entries
