use Rattle.std.proofs.Common.{◌∙◌, ap, refl, subst, sym}
use Rattle.std.proofs.lemmas.Result.{on_ok_weaker}
use Rattle.aprs_base.specs.declared.cutting.Cut.TheVariants as cut
use Rattle.aprs_base.specs.declared.packets.Source.TheVariants as source
use Rattle.aprs_history.specs.declared.verdicts.Verdict.{Verdict}
use Rattle.login_pass.specs.Login.{login_of}
use Rattle.line_verdict.specs.Fit.{IsFit}
use Rattle.line_verdict.proofs.VerdictLemmas.{login_fit}
use Rattle.server_core.specs.Steps.{with_port, with_verdict}
use Rattle.server_core.proofs.CoreLemmas.{with_asked}
use Rattle.server_core.proofs.server.State.take_login.Goals as goal

pub returns-clause-core : goal.returns-clause-core
returns-clause-core c =
    let core = c.args.self.now in
    let from = source.Link c.args.number in
    let line = c.args.line.now in
    on_ok_weaker c.take_verdict.result
    (λ is. is
    ∙ ap (λ port. with_port from port c.in_ok-verdict.verdict core) c.downlink.ensures
    ∙ with_asked from line c.in_ok-verdict.verdict core
    ∙ ap (λ (verdict : Verdict). with_verdict from (cut.Line line) verdict core) c.in_ok-verdict.ensures)
    c.take_verdict.ensures.core

pub take_verdict-requires-clause-fit : goal.take_verdict-requires-clause-fit
take_verdict-requires-clause-fit c =
    subst IsFit (sym c.in_ok-verdict.ensures) (login_fit c.args.self.now.conf.server c.args.filters c.args.line.now (login_of c.args.line.now) refl)
