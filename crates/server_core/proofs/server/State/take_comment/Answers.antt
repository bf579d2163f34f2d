use Rattle.std.proofs.Common.{◌∙◌, None, ap, subst, sym}
use Rattle.std.proofs.lemmas.Result.{on_ok_weaker}
use Rattle.aprs_base.specs.declared.packets.Source.TheVariants as source
use Rattle.aprs_history.specs.declared.verdicts.Verdict.{Verdict}
use Rattle.line_verdict.specs.Fit.{IsFit}
use Rattle.line_verdict.proofs.VerdictLemmas.{comment_fit}
use Rattle.server_core.specs.Steps.{with_port}
use Rattle.server_core.proofs.CoreLemmas.{comment_quiet}
use Rattle.server_core.proofs.server.State.take_comment.Goals as goal

pub returns-clause-core : goal.returns-clause-core
returns-clause-core c =
    let core = c.args.self.now in
    let from = source.Link c.args.number in
    let line = c.args.line.now in
    on_ok_weaker c.take_verdict.result
    (λ is. is ∙ ap (λ (verdict : Verdict). with_port from None verdict core) c.in_ok-verdict.ensures ∙ comment_quiet from line c.args.voice.now core)
    c.take_verdict.ensures.core

pub take_verdict-requires-clause-fit : goal.take_verdict-requires-clause-fit
take_verdict-requires-clause-fit c = subst IsFit (sym c.in_ok-verdict.ensures) (comment_fit c.args.voice.now c.args.line.now)
