use Rattle.std.proofs.Common.{subst, ap, ◌≡◌, ◌∙◌, true, refl, arith, ◌<◌, length}
use Rattle.aprs_history.specs.Headline.{HasFreshLinks}
use Rattle.aprs_history.specs.Runs.{are_listens}
use Rattle.aprsc_daemon.specs.Phases.{Listening}
use Rattle.aprsc_daemon.proofs.RunLemmas.{listed_at, listened, opens_none, opens_so, same_listener}
use Rattle.aprsc_daemon.proofs.serving.listen_all.Goals as goal

pub loop-spec-init : goal.loop-spec-init
loop-spec-init g c = (refl, (refl, refl), refl, λ s is. opens_none s c.args.fronts.now (g.W.Wire.shown c.args.wire.now).told)

pub returns-in-Err-Failed-clause-failed : goal.returns-in-Err-Failed-clause-failed
returns-in-Err-Failed-clause-failed g c = λ n is s same.
    let here = same_listener c.loop-spec.n n is in
    opens_so s c.args.fronts.now (g.W.Wire.shown c.args.wire.now).told (g.W.Wire.shown c.loop-spec.wire).told (g.W.Wire.shown c.listen.new.inner).told (Listening s c.loop-spec.n) (Listening s n) c.in-Err-Failed.ensures.after.err
    (λ more. subst (λ m. Listening s m more) here) (c.loop-spec.invariant.3 s same)

pub returns-in-Err-Failed-clause-err : goal.returns-in-Err-Failed-clause-err
returns-in-Err-Failed-clause-err g c = λ s is.
    opens_so s c.args.fronts.now (g.W.Wire.shown c.args.wire.now).told (g.W.Wire.shown c.loop-spec.wire).told (g.W.Wire.shown c.listen.new.inner).told (Listening s c.loop-spec.n) (λ more. HasFreshLinks more × (are_listens more ≡ true)) c.in-Err-Failed.ensures.after.err
    (λ more phase. (phase.fresh, phase.only)) (c.loop-spec.invariant.3 s is)

pub returns-in-Err-Memory-clause-err : goal.returns-in-Err-Memory-clause-err
returns-in-Err-Memory-clause-err g c = λ s is.
    opens_so s c.args.fronts.now (g.W.Wire.shown c.args.wire.now).told (g.W.Wire.shown c.loop-spec.wire).told (g.W.Wire.shown c.listen.new.inner).told (Listening s c.loop-spec.n) (λ more. HasFreshLinks more × (are_listens more ≡ true)) c.in-Err-Memory.ensures.after.err
    (λ more phase. (phase.fresh, phase.only)) (c.loop-spec.invariant.3 s is)

pub loop-spec-preserved : goal.loop-spec-preserved
loop-spec-preserved g c = (
  omega arith,
  (c.in-Ok.ensures.after.listens ∙ c.loop-spec.invariant.1.0, c.listen.ensures.after.nexts ∙ c.loop-spec.invariant.1.1),
  ap (λ page. record { page = page; http = c.listen.new.http }) c.listen.ensures.same ∙ ap (λ http. record { page = c.loop-spec.fronts.page; http = http }) c.listen.ensures.front ∙ c.loop-spec.invariant.2,
  λ s is.
      let at : c.loop-spec.n ≡ c.loop-spec.spec-index = c.loop-spec.invariant.0 in
      let within : c.loop-spec.n < length c.args.listens.now = omega arith in
      listened s c.args.fronts.now c.loop-spec.fronts _ _ _ c.loop-spec.n _ c.args.listens.now c.loop-spec.invariant.2 is within (listed_at c.args.listens.now c.loop-spec.n c.loop-spec.spec-index _ at within) c.in-Ok.ensures.after.ok (c.loop-spec.invariant.3 s is),
)
