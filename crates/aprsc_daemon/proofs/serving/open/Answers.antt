use Rattle.std.proofs.Common.{◌≡◌, ◌<◌, ◌≤◌, true, [], length, refl, sym, ◌∙◌, subst, arith}
use Rattle.std.proofs.lemmas.Result.{err_from_is_err_and}
use Rattle.aprs_history.specs.Headline.{HasFreshLinks}
use Rattle.aprs_history.specs.Runs.{are_listens}
use Rattle.server_core.specs.Meaning.{listeners, setting_of}
use Rattle.aprsc_daemon.specs.Causes.{OpensOnly}
use Rattle.aprsc_daemon.specs.Phases.{Listening, Resting}
use Rattle.aprsc_daemon.proofs.EventLemmas.{err_of}
use Rattle.aprsc_daemon.proofs.RunLemmas.{opens_so}
use Rattle.server_core.proofs.OfferLemmas.{numbered_short}
use Rattle.aprsc_daemon.proofs.ServeLemmas.{few_listeners, listening_rests}
use Rattle.aprsc_daemon.proofs.serving.open.Goals as goal

pub listen_all-requires : goal.listen_all-requires
listen_all-requires g c = subst (λ specs. length specs ≤ 17) (sym (c.as_slice.ensures.value ∙ c.in-Ok.ensures)) (few_listeners c.args.conf c.requires.sound)

pub new-requires-clause-listens : goal.new-requires-clause-listens
new-requires-clause-listens g c = let few = c.requires.sound.listens.1 in let short = numbered_short c.args.conf.listens in omega arith

pub returns-in_err-listen_all-clause-listen : goal.returns-in_err-listen_all-clause-listen
returns-in_err-listen_all-clause-listen g c =
    let error = err_from_is_err_and c.from_residual.result c.from_residual.ensures.1 in
    let s = setting_of c.args.conf in
    let same : c.as_slice.result.now ≡ listeners c.args.conf = c.as_slice.ensures.value ∙ c.in-Ok.ensures in
    err_of _ c.from_residual.result error.0 c.in_err-listen_all.field-0.0 error.1 error.2 (λ n is.
    opens_so s c.args.fronts.now (g.W.Wire.shown c.args.wire.now).told (g.W.Wire.shown c.listen_all.new.wire).told (g.W.Wire.shown c.listen_all.new.wire).told (Listening s n) (OpensOnly n) refl
    (λ more phase. (phase.count, phase.only)) (c.in_err-listen_all.ensures.failed n is s (sym same)))

pub returns-in_err-listen_all-clause-within : goal.returns-in_err-listen_all-clause-within
returns-in_err-listen_all-clause-within g c =
    let error = err_from_is_err_and c.from_residual.result c.from_residual.ensures.1 in
    let same : c.as_slice.result.now ≡ listeners c.args.conf = c.as_slice.ensures.value ∙ c.in-Ok.ensures in
    err_of _ c.from_residual.result error.0 c.in_err-listen_all.field-0.0 error.1 error.2 (λ n is.
    subst (λ specs. n < length specs) same (c.in_err-listen_all.ensures.within n is))

pub returns-in-Ok-new-clause-run : goal.returns-in-Ok-new-clause-run
returns-in-Ok-new-clause-run g c =
    let s = setting_of c.args.conf in
    let same : c.as_slice.result.now ≡ listeners c.args.conf = c.as_slice.ensures.value ∙ c.in-Ok.ensures in
    opens_so s c.args.fronts.now (g.W.Wire.shown c.args.wire.now).told (g.W.Wire.shown c.listen_all.new.wire).told (g.W.Wire.shown c.listen_all.new.wire).told (Listening s (length c.as_slice.result.now)) (Resting [] c.in-Ok-new.core) refl
    (λ more phase. listening_rests c.in-Ok-new.core c.args.conf more c.in-Ok-new.ensures.conf c.in-Ok-new.ensures.stands (subst (λ specs. Listening s (length specs) more) same phase))
    (c.in_ok-listen_all.ensures.run s (sym same))

pub returns-clause-err : goal.returns-clause-err
returns-clause-err g c =
    let s = setting_of c.args.conf in
    let same : c.as_slice.result.now ≡ listeners c.args.conf = c.as_slice.ensures.value ∙ c.in-Ok.ensures in
    opens_so s c.args.fronts.now (g.W.Wire.shown c.args.wire.now).told (g.W.Wire.shown c.listen_all.new.wire).told (g.W.Wire.shown c.listen_all.new.wire).told (Listening s (length c.as_slice.result.now)) (λ more. HasFreshLinks more × (are_listens more ≡ true)) refl (λ more phase. (phase.fresh, phase.only))
    (c.in_ok-listen_all.ensures.run s (sym same))
