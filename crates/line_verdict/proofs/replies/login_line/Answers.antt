use Rattle.std.proofs.Common.{◌≡◌, subst, sym, arith}
use Rattle.std.proofs.lemmas.Grind.{common_steps}
use Rattle.aprs_base.specs.Bytes.{IsLine}
use Rattle.aprs_history.specs.Texts.{login_reply}
use Rattle.aprs_history.proofs.LineLemmas.{reply_is_line}
use Rattle.line_verdict.proofs.replies.login_line.Goals as goal

pub known_line-requires : goal.known_line-requires
known_line-requires c =
    let reply : c.as_slice.result.now ≡ login_reply c.args.server.now c.args.session.now = grind (arith, common_steps) in
    subst IsLine (sym reply) (reply_is_line c.args.server.now c.args.session.now c.bytes-2.ensures.grammar c.bytes.ensures.grammar)
