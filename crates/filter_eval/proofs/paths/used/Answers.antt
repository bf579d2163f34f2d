use Rattle.std.proofs.Common.{sym, ap, ◌∙◌}
use Rattle.std.specs.List.{list_any}
use Rattle.filter_eval.specs.Passes.{used_match, matches_via}
use Rattle.filter_eval.proofs.PathLemmas.{used_all, used_front}
use Rattle.filter_eval.proofs.paths.used.Goals as goal

pub loop-last-preserved : goal.loop-last-preserved
loop-last-preserved c = λ names.
    sym (used_front names c.in-Some.front.now c.in-Some.last.now c.if-last.false) ∙ ap (used_match names) (sym c.in-Some.ensures.cases.0) ∙ c.loop-last.invariant names

pub returns-then-last : goal.returns-then-last
returns-then-last c = λ names.
    ap (list_any (matches_via names)) c.in-Some.ensures.cases.0 ∙ sym (used_all names c.in-Some.front.now c.in-Some.last.now c.if-last.true)
    ∙ ap (used_match names) (sym c.in-Some.ensures.cases.0) ∙ c.loop-last.invariant names
