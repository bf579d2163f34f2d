use Rattle.std.proofs.Common.{◌++◌, ◌∙◌, [], Err, ap, append-nil, append_assoc, refl, subst, sym}
use Rattle.aprs_base.proofs.SlotLemmas.{each_takes-append, each_takes-none}
use Rattle.aprsc_daemon.specs.Fronts.{state_of}
use Rattle.front_history.specs.Serving.{Serves}
use Rattle.front_history.proofs.ServesLemmas.{serves_so}
use Rattle.aprs_history.specs.Stands.{StandsFor}
use Rattle.server_core.specs.Meaning.{setting_of}
use Rattle.aprsc_daemon.specs.Phases.{Broken, Finished, Idling, Resting, Served}
use Rattle.aprsc_daemon.specs.declared.serving.End.TheVariants as ended
use Rattle.aprsc_daemon.proofs.ServeLemmas.{finishes, stopped_rests}
use Rattle.aprsc_daemon.proofs.serving.serve.Goals as goal

pub loop-init : goal.loop-init
loop-init g c = (
  tt,
  tt,
  refl,
  c.requires.going,
  c.requires.numbered,
  (refl, refl),
  refl,
  [],
  each_takes-none (λ z. (goal.Journal-dyn g z).journal_shown z.1) c.args.journals.now.items,
  λ s lines same start run. subst (λ all. Serves s start (g.W.Wire.shown c.args.wire.now).told (state_of c.args.fronts.now) (Resting all c.args.core.now)) (sym (append-nil lines)) run,
)

pub loop-preserved : goal.loop-preserved
loop-preserved g c =
    let before = c.loop.invariant in
    let now = c.in-Ok-false.ensures.run in (
      tt,
      tt,
      c.in-Ok-false.ensures.conf ∙ before.2,
      sym c.in-Ok-false.ensures.done ∙ c.in-Ok-false.field-0-test,
      c.in-Ok-false.ensures.numbered,
      (c.serve_round.ensures.listens ∙ before.5.0, c.in-Ok-false.ensures.nexts ∙ before.5.1),
      c.in-Ok-false.ensures.ports ∙ before.6,
      before.7 ++ now.0,
      each_takes-append (λ z. (goal.Journal-dyn g z).journal_shown z.1) before.7 now.0 _ _ _ before.8 now.1,
      λ s lines same start run.
          subst (λ all. Serves s start (g.W.Wire.shown c.serve_round.new.wire).told (state_of c.serve_round.new.fronts) (Resting all c.serve_round.new.core)) (append_assoc lines before.7 now.0)
          ((now.2 s (lines ++ before.7) (ap setting_of before.2 ∙ same)).0 start (before.9 s lines same start run)),
    )

pub returns-in-Ok-true-clause-run : goal.returns-in-Ok-true-clause-run
returns-in-Ok-true-clause-run g c =
    let before = c.loop.invariant in
    let now = c.in-Ok-true.ensures.run in (
      before.7 ++ now.0,
      each_takes-append (λ z. (goal.Journal-dyn g z).journal_shown z.1) before.7 now.0 _ _ _ before.8 now.1,
      λ s lines same start run.
          let all = (lines ++ before.7) ++ now.0 in
          let core = c.serve_round.new.core in (
            (state_of c.serve_round.new.fronts),
            c.in-Ok-true.ensures.ports ∙ before.6,
            subst (λ all. Serves s start (g.W.Wire.shown c.serve_round.new.wire).told (state_of c.serve_round.new.fronts) (Served s ended.Stopped all)) (append_assoc lines before.7 now.0)
                (serves_so s (g.W.Wire.shown c.serve_round.new.wire).told (Resting all core) (Served s ended.Stopped all)
                (λ more. finishes all s core more (ap setting_of (c.in-Ok-true.ensures.conf ∙ before.2) ∙ same) (sym c.in-Ok-true.ensures.done ∙ c.in-Ok-true.field-0-test)) (state_of c.serve_round.new.fronts) start
                ((now.2 s (lines ++ before.7) (ap setting_of before.2 ∙ same)).0 start (before.9 s lines same start run))),
          ),
    )

pub returns-in-Ok-true-clause-stands : goal.returns-in-Ok-true-clause-stands
returns-in-Ok-true-clause-stands g c = λ stopped s lines same start run.
    let before = c.loop.invariant in
    let now = c.in-Ok-true.ensures.run in
    let core = c.serve_round.new.core in (
      (state_of c.serve_round.new.fronts),
      c.in-Ok-true.ensures.ports ∙ before.6,
      serves_so s (g.W.Wire.shown c.serve_round.new.wire).told (Resting ((lines ++ before.7) ++ now.0) core) (λ more. Finished s more × StandsFor s core.seen more)
          (λ more. stopped_rests s core more (ap setting_of (c.in-Ok-true.ensures.conf ∙ before.2) ∙ same) (sym c.in-Ok-true.ensures.done ∙ c.in-Ok-true.field-0-test)) (state_of c.serve_round.new.fronts) start
          ((now.2 s (lines ++ before.7) (ap setting_of before.2 ∙ same)).0 start (before.9 s lines same start run)),
    )

pub returns-in-Err-Failed-clause-run : goal.returns-in-Err-Failed-clause-run
returns-in-Err-Failed-clause-run g c =
    let before = c.loop.invariant in
    let now = c.in-Err-Failed.ensures.run in (
      before.7 ++ now.0,
      each_takes-append (λ z. (goal.Journal-dyn g z).journal_shown z.1) before.7 now.0 _ _ _ before.8 now.1,
      λ s lines same start run.
          let all = (lines ++ before.7) ++ now.0 in
          let last = (now.2 s (lines ++ before.7) (ap setting_of before.2 ∙ same)).2 (ap Err c.in-Err-Failed.field-0-is) start (before.9 s lines same start run) in (
            last.0,
            last.1 ∙ before.6,
            subst (λ all. Serves s start (g.W.Wire.shown c.serve_round.new.wire).told last.0 (Served s ended.Failed all)) (append_assoc lines before.7 now.0)
                (serves_so s (g.W.Wire.shown c.serve_round.new.wire).told (Idling s all) (Served s ended.Failed all) (λ more phase. (phase.idle, phase.journal)) last.0 start last.2),
          ),
    )

pub returns-in-Err-Memory-clause-run : goal.returns-in-Err-Memory-clause-run
returns-in-Err-Memory-clause-run g c =
    let before = c.loop.invariant in
    let now = c.in-Err-Memory.ensures.run in (
      before.7 ++ now.0,
      each_takes-append (λ z. (goal.Journal-dyn g z).journal_shown z.1) before.7 now.0 _ _ _ before.8 now.1,
      λ s lines same start run.
          let all = (lines ++ before.7) ++ now.0 in
          let last = (now.2 s (lines ++ before.7) (ap setting_of before.2 ∙ same)).1 start (before.9 s lines same start run) in (
            last.0,
            last.1 ∙ before.6,
            subst (λ all. Serves s start (g.W.Wire.shown c.serve_round.new.wire).told last.0 (Served s ended.Memory all)) (append_assoc lines before.7 now.0)
                (serves_so s (g.W.Wire.shown c.serve_round.new.wire).told (Broken s all) (Served s ended.Memory all) (λ more phase. (phase.fresh, phase.told)) last.0 start last.2),
          ),
    )
