use Rattle.std.proofs.Common.{filter, ap, sym, ◌∙◌}
use Rattle.filter_eval.specs.Passes.{is_text}
use Rattle.heard_routing.specs.Entries.{is_another, links_of}
use Rattle.heard_routing.proofs.TableLemmas.{written_nowhere}
use Rattle.heard_routing.proofs.table.remove_one.Goals as goal

pub returns-in_default-clause-removed : goal.returns-in_default-clause-removed
returns-in_default-clause-removed c =
    let groups = c.args.table.now.entries in
    ap (λ table. table.entries) c.get_mut.follows.holds-at-none
    ∙ sym (written_nowhere (is_text c.args.call.now) groups (filter (is_another c.args.link) (links_of c.args.call.now groups)) (sym c.in_default.ensures.value))
