use Rattle.std.proofs.Common.{◌+◌, ◌∙◌, ap, [], None, drop, subst}
use Rattle.front_history.specs.Answers.{front_state}
use Rattle.front_history.specs.Serving.{SendsOn, Serves}
use Rattle.server_core.proofs.WholeRoundLemmas.{next_item}
use Rattle.aprsc_daemon.specs.Phases.{Acting}
use Rattle.aprsc_daemon.specs.Phases.{Broken}
use Rattle.aprsc_daemon.proofs.BringLemmas.{brings_on}
use Rattle.aprsc_daemon.proofs.EventLemmas.{err_any}
use Rattle.aprsc_daemon.proofs.JournalLemmas.{sends_broken}
use Rattle.aprsc_daemon.proofs.serving.cast_all.Goals as goal

pub loop-cast-preserved : goal.loop-cast-preserved
loop-cast-preserved g c = (
  (c.cast_one.ensures.failures.0 ∙ c.loop-cast.invariant.0.0, c.cast_one.ensures.failures.1 ∙ c.loop-cast.invariant.0.1),
  c.cast_one.ensures.links ∙ c.loop-cast.invariant.1,
  brings_on [] (g.W.Wire.shown c.args.wire.now).told (g.W.Wire.shown c.loop-cast.wire).told (g.W.Wire.shown c.cast_one.new.wire).told c.loop-cast.invariant.2 c.in_ok-cast_one.ensures.brings,
  c.cast_one.ensures.front ∙ c.loop-cast.invariant.3,
  c.cast_one.ensures.port ∙ c.loop-cast.invariant.4,
  λ s lines core offers closes same peers front start run.
      let casts = c.args.casts.now in
      let i = c.loop-cast.cast-index in
      let left = next_item casts i c.cast-item.result c.loop-cast-test.true c.cast-item.is in
      c.in_ok-cast_one.ensures.run s lines core (drop (i + 1) casts) offers closes same peers front start
      (subst (λ owed. Serves s start (g.W.Wire.shown c.loop-cast.wire).told (front_state c.loop-cast.fronts.page front) (Acting lines core None owed offers closes)) left (c.loop-cast.invariant.5 s lines core offers closes same peers front start run)),
)

pub returns-in_err-cast_one-clause-err : goal.returns-in_err-cast_one-clause-err
returns-in_err-cast_one-clause-err g c = λ s lines core offers closes same peers.
    err_any {P = SendsOn s (g.W.Wire.shown c.args.wire.now).told c.args.fronts.now.page (g.W.Wire.shown c.cast_one.new.wire).told c.cast_one.new.fronts.page (Acting lines core None c.args.casts.now offers closes) (Broken s lines)} c.from_residual.result (λ front start run.
    sends_broken lines s (g.W.Wire.shown c.loop-cast.wire).told (g.W.Wire.shown c.cast_one.new.wire).told c.loop-cast.fronts.page c.cast_one.new.fronts.page core None (drop c.loop-cast.cast-index c.args.casts.now) offers closes same c.in_err-cast_one.ensures.err (ap (λ f. f.page) c.in_err-cast_one.ensures.uncounted) front start
    (c.loop-cast.invariant.5 s lines core offers closes same peers front start run))
