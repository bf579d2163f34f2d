use Rattle.std.proofs.Common.{◌≡◌, ◌-◌, eqb, false, length, get_or, ◌∙◌, arith}
use Rattle.std.proofs.lemmas.Grind.{common_steps}
use Rattle.aprs_body.proofs.BlankLemmas.{cut_blank, kept}
use Rattle.aprs_body.proofs.forms.without_trailing_blanks.Goals as goal

pub loop-rest-preserved : goal.loop-rest-preserved
loop-rest-preserved c =
    let rest = c.loop-rest.rest.now in
    let blank : get_or rest (length rest - 1) 0 ≡ 32 = grind (arith, common_steps) in
    (cut_blank rest c.in-32.len_at_least blank ∙ c.loop-rest.invariant.0, grind (arith, common_steps))

pub returns-in_default-2-clause-value : goal.returns-in_default-2-clause-value
returns-in_default-2-clause-value c =
    let rest = c.loop-rest.rest.now in
    let other : eqb (get_or rest (length rest - 1) 0) 32 ≡ false = grind (arith, common_steps) in
    kept rest c.in_default.len_at_least other ∙ c.loop-rest.invariant.0
