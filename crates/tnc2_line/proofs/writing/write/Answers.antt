use Rattle.std.proofs.Common.{◌≡◌, ℕ, ◌≤◌, [], ◌++◌, List, length, ap, subst, sym, arith, ◌∙◌}
use Rattle.aprs_base.specs.Bytes.{IsLine}
use Rattle.tnc2_line.specs.Packet.{parts_of, text_of}
use Rattle.tnc2_line.proofs.Laws.{line_of_parts, parts_back}
use Rattle.tnc2_line.proofs.writing.write.Goals as goal

text_written : (old new text : List ℕ) → old ≡ [] → new ≡ old ++ text → new ≡ text
text_written old new text none all = all ∙ ap (λ t. t ++ text) none

pub invariant_of-result : goal.invariant_of-result
invariant_of-result c =
    let same = text_written _ _ _ c.new-text.ensures c.in_ok-put_parts.ensures.ok in
    let short : length (text_of c.args.parts.now) ≤ 510 = omega (arith, ap length same, c.in_ok-put_parts.ensures.short) in
    subst (λ t. IsLine t) (sym same) (line_of_parts c.args.parts.now c.requires short)

pub returns-clause-long : goal.returns-clause-long
returns-clause-long c =
    let same = text_written _ _ _ c.new-text.ensures c.in_ok-put_parts.ensures.ok in
    (λ e. absurd (cc), λ long. absurd (omega (arith, ap length same, c.in_ok-put_parts.ensures.short)))

pub returns-clause-again : goal.returns-clause-again
returns-clause-again c = ap parts_of (text_written _ _ _ c.new-text.ensures c.in_ok-put_parts.ensures.ok) ∙ parts_back c.args.parts.now c.requires
