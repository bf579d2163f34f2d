use Rattle.std.proofs.Common.{◌≡◌, subst, sym, arith}
use Rattle.std.proofs.lemmas.Grind.{common_steps}
use Rattle.aprs_base.specs.Bytes.{IsLine}
use Rattle.aprs_history.specs.Dates.{comment_text}
use Rattle.aprs_history.proofs.LineLemmas.{comment_is_line}
use Rattle.line_verdict.proofs.replies.comment_of.Goals as goal

pub known_line-requires : goal.known_line-requires
known_line-requires c =
    let text : c.as_slice.result.now ≡ comment_text c.args.server.now c.args.moment = grind (arith, common_steps) in
    subst IsLine (sym text) (comment_is_line c.args.server.now c.args.moment c.bytes.ensures.grammar)
