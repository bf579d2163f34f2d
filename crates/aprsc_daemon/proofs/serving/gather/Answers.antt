use Rattle.std.proofs.Common.{◌≡◌, true, sym, ap, ◌∙◌, subst, Err}
use Rattle.std.specs.Bool.{MatchBool}
use Rattle.std.proofs.lemmas.Result.{err_from_is_err_and}
use Rattle.aprs_base.specs.declared.events.WireError.TheVariants as wire_error
use Rattle.aprs_history.specs.Rounds.{is_whole}
use Rattle.aprsc_daemon.specs.Phases.{is_partial}
use Rattle.aprsc_daemon.proofs.EventLemmas.{err_inside, gathers_less}
use Rattle.aprsc_daemon.proofs.serving.gather.Goals as goal

pub returns-in_err-whole-clause-idle : goal.returns-in_err-whole-clause-idle
returns-in_err-whole-clause-idle g c = λ s lines core same told le failed start run.
    let partial = subst (λ b. MatchBool b (is_whole 0 c.loop-whole.events.items ≡ true) (is_partial 0 c.loop-whole.events.items ≡ true)) c.loop-whole-test.true c.loop-whole.invariant.0 in
    let error = err_from_is_err_and c.from_residual.result c.from_residual.ensures.1 in
    let last = c.in_err-whole.ensures.idle s lines core (g.W.Wire.shown c.args.wire.now).links same (c.loop-whole.invariant.6 ∙ told) le c.loop-whole.invariant.1
    (ap Err (sym error.2 ∙ err_inside c.from_residual.result error.0 wire_error.Failed error.1 failed)) start (c.loop-whole.invariant.5 s lines core same told start run) in
    (last.0, last.1 ∙ c.loop-whole.invariant.2, last.2)

pub loop-whole-smaller : goal.loop-whole-smaller
loop-whole-smaller g c = gathers_less c.loop-whole.whole c.in_ok-whole.whole c.loop-whole.events.items c.take_next.new.events.items c.loop-whole-test.true c.loop-whole.invariant.0 c.in_ok-whole.ensures.more
