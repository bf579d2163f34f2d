use Rattle.std.proofs.Common.{None, ap, sym, ◌∙◌}
use Rattle.std.proofs.lemmas.Result.{on_ok_weaker}
use Rattle.aprs_base.specs.declared.packets.Source.TheVariants as source
use Rattle.aprs_history.specs.declared.verdicts.Verdict.TheVariants.{Filtered, LoggedIn}
use Rattle.server_core.specs.Steps.{with_port}
use Rattle.server_core.proofs.server.State.log_in.Goals as goal

pub returns-in-Some : goal.returns-in-Some
returns-in-Some c =
    let from = source.Link c.args.number in
    on_ok_weaker c.answer.result
    (λ is. is
    ∙ ap (with_port from None (Filtered c.in-Some.answer)) c.in_ok-open_session.ensures
    ∙ ap (λ answer. with_port from c.args.port (LoggedIn c.args.session answer) c.args.self.now) (sym c.in-Some.is))
    c.answer.ensures
