use Rattle.std.proofs.Common.{[], refl, ap, sym, ◌∙◌}
use Rattle.aprsc_daemon.proofs.BringLemmas.{brings_on}
use Rattle.aprsc_daemon.proofs.ReachLemmas.{err_then, ok_then, reach_then}
use Rattle.front_history.specs.Serving.{SendsOn}
use Rattle.aprsc_daemon.specs.Phases.{Acting, Broken, Offering}
use Rattle.aprsc_daemon.proofs.EventLemmas.{err_any}
use Rattle.aprsc_daemon.proofs.JournalLemmas.{sends_broken}
use Rattle.aprsc_daemon.proofs.serving.reach_out.Goals as goal

pub returns-in_err-dial_due-clause-err : goal.returns-in_err-dial_due-clause-err
returns-in_err-dial_due-clause-err g c = λ s lines core same conf.
    err_any {P = SendsOn s (g.W.Wire.shown c.args.wire.now).told c.args.fronts.now.page (g.W.Wire.shown c.dial_due.new.wire).told c.args.fronts.now.page (Acting lines core c.args.acts.now.dial c.args.acts.now.casts c.args.acts.now.offers c.args.acts.now.closes) (Broken s lines)} c.from_residual.result
    (sends_broken lines s (g.W.Wire.shown c.args.wire.now).told (g.W.Wire.shown c.dial_due.new.wire).told c.args.fronts.now.page c.args.fronts.now.page core c.args.acts.now.dial c.args.acts.now.casts c.args.acts.now.offers c.args.acts.now.closes same
    c.in_err-dial_due.ensures.err refl)

pub returns-clause-run : goal.returns-clause-run
returns-clause-run g c = λ s lines core same is.
    let acts = c.args.acts.now in
    let peers = ap (λ k. k.peers) is ∙ sym (c.as_slice-2.ensures.value ∙ ap (λ k. k.peers) c.conf.view_is) in
    let uplinks = ap (λ k. k.uplinks) is ∙ sym (c.as_slice.ensures.value ∙ ap (λ k. k.uplinks) c.conf.view_is) in
    ok_then c.cast_all.result (c.cast_all.ensures.run s lines core acts.offers acts.closes same peers)
    (reach_then lines s (g.W.Wire.shown c.args.wire.now).told (g.W.Wire.shown c.dial_due.new.wire).told (g.W.Wire.shown c.cast_all.new.wire).told c.args.fronts.now.page c.cast_all.new.fronts.page core c.acts.inside.dial acts.dial c.as_slice-3.result.now acts.casts acts.offers acts.closes (Offering lines core acts.offers acts.closes)
    (ap (λ a. a.dial) c.acts.view_is) (c.as_slice-3.ensures.value ∙ ap (λ a. a.casts) c.acts.view_is)
    (c.in_ok-dial_due.ensures.run s lines core acts.casts acts.offers acts.closes same uplinks))

pub returns-clause-err : goal.returns-clause-err
returns-clause-err g c = λ s lines core same is.
    let acts = c.args.acts.now in
    let peers = ap (λ k. k.peers) is ∙ sym (c.as_slice-2.ensures.value ∙ ap (λ k. k.peers) c.conf.view_is) in
    let uplinks = ap (λ k. k.uplinks) is ∙ sym (c.as_slice.ensures.value ∙ ap (λ k. k.uplinks) c.conf.view_is) in
    err_then c.cast_all.result (c.cast_all.ensures.err s lines core acts.offers acts.closes same peers)
    (reach_then lines s (g.W.Wire.shown c.args.wire.now).told (g.W.Wire.shown c.dial_due.new.wire).told (g.W.Wire.shown c.cast_all.new.wire).told c.args.fronts.now.page c.cast_all.new.fronts.page core c.acts.inside.dial acts.dial c.as_slice-3.result.now acts.casts acts.offers acts.closes (Broken s lines)
    (ap (λ a. a.dial) c.acts.view_is) (c.as_slice-3.ensures.value ∙ ap (λ a. a.casts) c.acts.view_is)
    (c.in_ok-dial_due.ensures.run s lines core acts.casts acts.offers acts.closes same uplinks))

pub returns-clause-brings : goal.returns-clause-brings
returns-clause-brings g c =
    ok_then c.cast_all.result c.cast_all.ensures.brings
    (brings_on [] (g.W.Wire.shown c.args.wire.now).told (g.W.Wire.shown c.dial_due.new.wire).told (g.W.Wire.shown c.cast_all.new.wire).told c.in_ok-dial_due.ensures.brings)
