use Rattle.std.proofs.Common.{◌≤◌, ◌++◌, ap, codes, length, subst, sym, List, ℕ, ◌∙◌}
use Rattle.aprs_base.specs.Bytes.{IsInner}
use Rattle.aprs_history.proofs.LineLemmas.{term_words}
use Rattle.line_verdict.proofs.replies.denied_term.Goals as goal

pub denied_for-requires : goal.denied_for-requires
denied_for-requires c =
    let digits = c.as_bytes.ensures.value ∙ c.in_ok-digits.ensures.ok in
    let text = c.as_slice.ensures.value ∙ c.append-2.ensures ∙ ap (λ front. front ++ c.as_bytes.result.now) (c.append.ensures ∙ ap (λ none. none ++ codes "term ") c.new-word.ensures) ∙ ap (λ ds. codes "term " ++ ds) digits in
    subst (λ (word : List ℕ). IsInner word × (length word ≤ 30)) (sym text) (term_words c.args.number c.ranges.number.fits)
