use Rattle.std.proofs.Common.{◌∙◌, ◌++◌, ap, codes, append_assoc}
use Rattle.line_verdict.proofs.replies.append_code.Goals as goal

pub returns : goal.returns
returns c =
    let before = c.args.text.now.items in
    let digits = c.args.digits.now in
    c.append-3.ensures ∙ ap (λ text. text ++ codes " vers aprsc 1.0") (c.append-2.ensures ∙ ap (λ text. text ++ digits) c.append.ensures)
    ∙ append_assoc (before ++ codes " pass ") digits (codes " vers aprsc 1.0") ∙ append_assoc before (codes " pass ") (digits ++ codes " vers aprsc 1.0")
