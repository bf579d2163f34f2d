use Rattle.std.proofs.Common.{◌+◌, ◌∙◌, [], None, drop, subst, refl}
use Rattle.front_history.specs.Serving.{ActsOn, Serves}
use Rattle.std.proofs.lemmas.List.{drop_all}
use Rattle.server_core.proofs.WholeRoundLemmas.{next_item}
use Rattle.aprsc_daemon.specs.Phases.{Offering}
use Rattle.aprs_base.specs.declared.events.Happening.TheVariants as did
use Rattle.aprsc_daemon.proofs.BringLemmas.{brings_on, brings_one}
use Rattle.aprsc_daemon.proofs.ActLemmas.{run_closes}
use Rattle.server_core.proofs.OfferLemmas.{same_at}
use Rattle.aprsc_daemon.specs.Phases.{Broken}
use Rattle.aprsc_daemon.proofs.EventLemmas.{err_any}
use Rattle.aprsc_daemon.proofs.JournalLemmas.{acts_broken}
use Rattle.aprsc_daemon.proofs.serving.close_all.Goals as goal

pub loop-link-preserved : goal.loop-link-preserved
loop-link-preserved g c = (
  (c.close.ensures.listens ∙ c.loop-link.invariant.0.0, c.close.ensures.nexts ∙ c.loop-link.invariant.0.1),
  c.close.ensures.links ∙ c.loop-link.invariant.1,
  brings_on [] (g.W.Wire.shown c.args.wire.now).told (g.W.Wire.shown c.loop-link.wire).told (g.W.Wire.shown c.close.new.self).told c.loop-link.invariant.2
      (brings_one (did.Closed _) [] (g.W.Wire.shown c.loop-link.wire).told (g.W.Wire.shown c.close.new.self).told refl c.in_ok-close.ensures.ok),
  λ s lines core same state start run.
      let left = next_item c.args.closes.now c.loop-link.link-index _ c.loop-link-test.true (same_at c.args.closes.now c.loop-link.link-index 0 _ c.loop-link-test.true) in
      run_closes lines s _ (g.W.Wire.shown c.close.new.self).told core _ (drop (c.loop-link.link-index + 1) c.args.closes.now) same c.in_ok-close.ensures.ok state start
      (subst (λ closes. Serves s start (g.W.Wire.shown c.loop-link.wire).told state (Offering lines core [] closes)) left (c.loop-link.invariant.3 s lines core same state start run)),
)

pub returns-in_err-close-clause-err : goal.returns-in_err-close-clause-err
returns-in_err-close-clause-err g c = λ s lines core same.
    err_any {P = ActsOn s (g.W.Wire.shown c.args.wire.now).told (g.W.Wire.shown c.close.new.self).told (Offering lines core [] c.args.closes.now) (Broken s lines)} c.from_residual.result (λ state start run.
    acts_broken lines s (g.W.Wire.shown c.loop-link.wire).told (g.W.Wire.shown c.close.new.self).told core None [] [] (drop c.loop-link.link-index c.args.closes.now) same c.in_err-close.ensures.err state start
    (c.loop-link.invariant.3 s lines core same state start run))

pub returns-clause-run : goal.returns-clause-run
returns-clause-run g c = λ s lines core same state start run.
    subst (λ left. Serves s start (g.W.Wire.shown c.loop-link.wire).told state (Offering lines core [] left)) (drop_all c.loop-link.link-index c.args.closes.now c.loop-link-test.false) (c.loop-link.invariant.3 s lines core same state start run)
