use Rattle.std.proofs.Common.{sym, arith, ◌∙◌}
use Rattle.filter_lang.proofs.PartLemmas.{split_whole, split_at_first}
use Rattle.filter_lang.proofs.parts.cut.Goals as goal

pub returns-then-place-text-clause-fields : goal.returns-then-place-text-clause-fields
returns-then-place-text-clause-fields c = split_whole _ _ (sym c.if-place-text.true ∙ c.first_place-place.ensures.place)

pub returns-clause-fields : goal.returns-clause-fields
returns-clause-fields c = split_at_first _ _ _ c.first_place-place.ensures.place (omega arith)
