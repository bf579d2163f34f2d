use Rattle.std.proofs.Common.{[], ap, sym, ◌∙◌}
use Rattle.filter_eval.specs.Passes.{is_text}
use Rattle.heard_routing.proofs.TableLemmas.{written_nowhere}
use Rattle.heard_routing.proofs.table.clear.Goals as goal

pub returns-in_default-clause-cleared : goal.returns-in_default-clause-cleared
returns-in_default-clause-cleared c =
    ap (λ table. table.entries) c.get_mut.follows.holds-at-none ∙ sym (written_nowhere (is_text c.args.call.now) c.args.table.now.entries [] (sym c.in_default.ensures.value))
