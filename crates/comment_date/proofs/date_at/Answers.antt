use Rattle.std.proofs.Common.{◌∙◌, refl}
use Rattle.comment_date.proofs.DateLemmas.{date_text_at}
use Rattle.comment_date.proofs.date_at.Goals as goal

pub returns : goal.returns
returns c =
    let text = date_text_at c.in-Ok.date c.args.moment (c.in-Ok.ensures.value ∙ c.min.ensures) in
    rw (c.copy_from_slice.ensures.after, c.to_bytes.ensures, text) refl
