use Rattle.std.proofs.Common.{◌≡◌, ◌∙◌, ap, sym, subst, rules, get_or, Option, ℕ, List, take, drop, ◌-◌, length}
use Rattle.std.specs.Prelude.{IfOk}
use Rattle.filter_lang.specs.declared.terms.What.{What}
use Rattle.filter_lang.specs.Parts.{fields_of}
use Rattle.filter_lang.specs.Grammar.{what_of, what_of_fields, other_of}
use Rattle.filter_lang.proofs.ReadLemmas.{kind_at}
use Rattle.filter_lang.proofs.reading.what.Goals as goal

pub returns-in-47-clause-value : goal.returns-in-47-clause-value
unfolding what_of
returns-in-47-clause-value c =
    let slash : get_or c.strip_last.result.0.now 1 0 ≡ 47 = search rules in
    let kind = kind_at c.strip_last.result.0.now c.in-47.len_at_least slash in
    let rest = fields_of (take (length c.strip_last.result.0.now - 2) (drop 2 c.strip_last.result.0.now)) in
    let read = ap (λ (n : ℕ). other_of n rest) c.lower_case.ensures in
    let whole = ap (λ (t : List ℕ). what_of_fields (fields_of t)) c.strip_last.ensures.text in
    subst (λ (x : Option What). IfOk c.kind.result (λ w. w ≡ x)) (read ∙ sym kind ∙ whole) c.kind.ensures.value
