use Rattle.std.proofs.Common.{sym, arith, ap, ◌∙◌, filter, ℕ, List}
use Rattle.filter_lang.specs.Parts.{is_used}
use Rattle.filter_lang.proofs.PartLemmas.{split_whole, split_at_first}
use Rattle.filter_lang.proofs.reading.next_word.Goals as goal

pub returns-then-end-text-clause-words : goal.returns-then-end-text-clause-words
returns-then-end-text-clause-words c = ap (λ (words : List (List ℕ)). filter is_used words) (split_whole _ _ (sym c.if-end-text.true ∙ c.first_place-end.ensures.place))

pub returns-clause-words : goal.returns-clause-words
returns-clause-words c = ap (λ (words : List (List ℕ)). filter is_used words) (split_at_first _ _ _ c.first_place-end.ensures.place (omega arith))
