use Rattle.std.proofs.Common.{◌≤◌, ◌∙◌, length, subst, sym, List, ℕ}
use Rattle.aprs_base.specs.Bytes.{IsInner}
use Rattle.aprs_history.proofs.LineLemmas.{code_digits}
use Rattle.line_verdict.proofs.replies.uplink_line.Goals as goal

pub login_by-requires : goal.login_by-requires
login_by-requires c =
    let digits = c.as_bytes.ensures.value ∙ c.in_ok-digits.ensures.ok in
    subst (λ (text : List ℕ). IsInner text × (length text ≤ 10)) (sym digits) (code_digits c.args.code c.ranges.code.fits)
