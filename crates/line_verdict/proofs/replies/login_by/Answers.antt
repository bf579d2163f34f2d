use Rattle.std.proofs.Common.{◌≡◌, subst, sym, arith}
use Rattle.std.proofs.lemmas.Grind.{common_steps}
use Rattle.aprs_base.specs.Bytes.{IsLine}
use Rattle.aprs_history.specs.Texts.{login_by}
use Rattle.aprs_history.proofs.LineLemmas.{login_is_line}
use Rattle.line_verdict.proofs.replies.login_by.Goals as goal

pub known_line-requires : goal.known_line-requires
known_line-requires c =
    let text : c.as_slice.result.now ≡ login_by c.args.server.now c.args.digits.now = grind (arith, common_steps) in
    subst IsLine (sym text) (login_is_line c.args.server.now c.args.digits.now c.bytes.ensures.grammar c.requires.0 c.requires.1)
