use Rattle.std.proofs.Common.{◌++◌, [], refl, sym, ap, ◌∙◌, subst, append-nil}
use Rattle.front_history.specs.Answers.{front_state}
use Rattle.front_history.specs.Serving.{SendsOn}
use Rattle.front_history.proofs.ServesLemmas.{serves_so}
use Rattle.server_core.specs.Meaning.{setting_of}
use Rattle.aprsc_daemon.specs.Phases.{Broken, Gathering}
use Rattle.aprsc_daemon.proofs.BringLemmas.{brings_on}
use Rattle.aprsc_daemon.proofs.EventLemmas.{ends_so}
use Rattle.aprsc_daemon.proofs.JournalLemmas.{round_breaks}
use Rattle.aprsc_daemon.proofs.ServeLemmas.{begins_acts, offers_listed, rests}
use Rattle.aprsc_daemon.proofs.serving.act.Goals as goal

pub returns-in_err-acts-clause-run : goal.returns-in_err-acts-clause-run
returns-in_err-acts-clause-run g c =
    let told = c.in_err-acts.ensures.told in (
      told.0,
      told.1,
      λ s lines same.
          ends_so _ (SendsOn s (g.W.Wire.shown c.args.wire.now).told c.args.fronts.now.page (g.W.Wire.shown c.args.wire.now).told c.args.fronts.now.page (Gathering lines c.args.core.now c.args.events.now) (Broken s (lines ++ told.0))) _ c.from_residual.result c.from_residual.ensures.1
          (subst (λ all. SendsOn s (g.W.Wire.shown c.args.wire.now).told c.args.fronts.now.page (g.W.Wire.shown c.args.wire.now).told c.args.fronts.now.page (Gathering lines c.args.core.now c.args.events.now) (Broken s all)) (sym (append-nil lines) ∙ ap (λ l. lines ++ l) (sym told.3))
          (λ front. serves_so s (g.W.Wire.shown c.args.wire.now).told (Gathering lines c.args.core.now c.args.events.now) (Broken s lines) (λ more. round_breaks s c.args.core.now c.args.events.now more same c.requires.whole c.requires.fresh) (front_state c.args.fronts.now.page front))),
    )

pub returns-in_err-reach_out-clause-run : goal.returns-in_err-reach_out-clause-run
returns-in_err-reach_out-clause-run g c =
    let told = c.in_ok-acts.ensures.told in (
      told.0,
      told.1,
      λ s lines same.
          ends_so _ (SendsOn s (g.W.Wire.shown c.args.wire.now).told c.args.fronts.now.page (g.W.Wire.shown c.reach_out.new.wire).told c.reach_out.new.fronts.page (Gathering lines c.args.core.now c.args.events.now) (Broken s (lines ++ told.0))) _ c.from_residual-in_err-reach_out.result c.from_residual-in_err-reach_out.ensures.1
          (λ front start run. c.in_err-reach_out.ensures.err s (lines ++ told.0) c.tell_round.new.core (ap setting_of c.in_ok-acts.ensures.conf ∙ same) (sym c.conf.ensures) front start
          (begins_acts lines s (g.W.Wire.shown c.args.wire.now).told c.args.core.now c.tell_round.new.core c.args.events.now c.in_ok-acts.acts told.0
          c.in_ok-acts.ensures.conf c.requires.whole told.2 c.requires.fresh c.in_ok-acts.ensures.stands c.in_ok-acts.ensures.due (front_state c.args.fronts.now.page front) start run)),
    )

pub returns-in_err-send_all-clause-run : goal.returns-in_err-send_all-clause-run
returns-in_err-send_all-clause-run g c =
    let told = c.in_ok-acts.ensures.told in
    let acts = c.in_ok-acts.acts in (
      told.0,
      told.1,
      λ s lines same.
          let now_same = ap setting_of c.in_ok-acts.ensures.conf ∙ same in
          ends_so _ (SendsOn s (g.W.Wire.shown c.args.wire.now).told c.args.fronts.now.page (g.W.Wire.shown c.send_all.new.wire).told c.send_all.new.fronts.page (Gathering lines c.args.core.now c.args.events.now) (Broken s (lines ++ told.0))) _ c.from_residual-in_err-send_all.result c.from_residual-in_err-send_all.ensures.1
          (λ front start run. c.in_err-send_all.ensures.err s (lines ++ told.0) acts.closes now_same front start
          (offers_listed (lines ++ told.0) s (g.W.Wire.shown c.reach_out.new.wire).told c.tell_round.new.core acts.offers acts.closes c.as_slice.result.now acts.closes
          (c.as_slice.ensures.value ∙ ap (λ a. a.offers) c.acts.view_is) refl (front_state c.reach_out.new.fronts.page front) start
          (c.in_ok-reach_out.ensures.run s (lines ++ told.0) c.tell_round.new.core now_same (sym c.conf.ensures) front start
          (begins_acts lines s (g.W.Wire.shown c.args.wire.now).told c.args.core.now c.tell_round.new.core c.args.events.now acts told.0
          c.in_ok-acts.ensures.conf c.requires.whole told.2 c.requires.fresh c.in_ok-acts.ensures.stands c.in_ok-acts.ensures.due (front_state c.args.fronts.now.page front) start run)))),
    )

pub returns-in_err-close_all-clause-run : goal.returns-in_err-close_all-clause-run
returns-in_err-close_all-clause-run g c =
    let told = c.in_ok-acts.ensures.told in
    let acts = c.in_ok-acts.acts in (
      told.0,
      told.1,
      λ s lines same.
          let now_same = ap setting_of c.in_ok-acts.ensures.conf ∙ same in
          ends_so _ (SendsOn s (g.W.Wire.shown c.args.wire.now).told c.args.fronts.now.page (g.W.Wire.shown c.close_all.new.wire).told c.send_all.new.fronts.page (Gathering lines c.args.core.now c.args.events.now) (Broken s (lines ++ told.0))) _ c.from_residual-in_err-close_all.result c.from_residual-in_err-close_all.ensures.1
          (λ front start run. c.in_err-close_all.ensures.err s (lines ++ told.0) c.send_all.new.core (ap setting_of c.in_ok-send_all.ensures.rest.conf ∙ now_same) (front_state c.send_all.new.fronts.page front) start
          (c.in_ok-send_all.ensures.run s (lines ++ told.0) c.as_slice-2.result.now now_same front start
          (offers_listed (lines ++ told.0) s (g.W.Wire.shown c.reach_out.new.wire).told c.tell_round.new.core acts.offers acts.closes c.as_slice.result.now c.as_slice-2.result.now
          (c.as_slice.ensures.value ∙ ap (λ a. a.offers) c.acts.view_is) (c.as_slice-2.ensures.value ∙ ap (λ a. a.closes) c.acts.view_is) (front_state c.reach_out.new.fronts.page front) start
          (c.in_ok-reach_out.ensures.run s (lines ++ told.0) c.tell_round.new.core now_same (sym c.conf.ensures) front start
          (begins_acts lines s (g.W.Wire.shown c.args.wire.now).told c.args.core.now c.tell_round.new.core c.args.events.now acts told.0
          c.in_ok-acts.ensures.conf c.requires.whole told.2 c.requires.fresh c.in_ok-acts.ensures.stands c.in_ok-acts.ensures.due (front_state c.args.fronts.now.page front) start run))))),
    )

pub returns-clause-run : goal.returns-clause-run
returns-clause-run g c =
    let told = c.in_ok-acts.ensures.told in
    let acts = c.in_ok-acts.acts in (
      told.0,
      told.1,
      λ s lines same.
          let now_same = ap setting_of c.in_ok-acts.ensures.conf ∙ same in (
            λ front start run. rests (lines ++ told.0) s (g.W.Wire.shown c.close_all.new.wire).told c.send_all.new.core (front_state c.send_all.new.fronts.page front) start
                (c.in_ok-close_all.ensures.run s (lines ++ told.0) c.send_all.new.core (ap setting_of c.in_ok-send_all.ensures.rest.conf ∙ now_same) (front_state c.send_all.new.fronts.page front) start
                (c.in_ok-send_all.ensures.run s (lines ++ told.0) c.as_slice-2.result.now now_same front start
                (offers_listed (lines ++ told.0) s (g.W.Wire.shown c.reach_out.new.wire).told c.tell_round.new.core acts.offers acts.closes c.as_slice.result.now c.as_slice-2.result.now
                (c.as_slice.ensures.value ∙ ap (λ a. a.offers) c.acts.view_is) (c.as_slice-2.ensures.value ∙ ap (λ a. a.closes) c.acts.view_is) (front_state c.reach_out.new.fronts.page front) start
                (c.in_ok-reach_out.ensures.run s (lines ++ told.0) c.tell_round.new.core now_same (sym c.conf.ensures) front start
                (begins_acts lines s (g.W.Wire.shown c.args.wire.now).told c.args.core.now c.tell_round.new.core c.args.events.now acts told.0
                c.in_ok-acts.ensures.conf c.requires.whole told.2 c.requires.fresh c.in_ok-acts.ensures.stands c.in_ok-acts.ensures.due (front_state c.args.fronts.now.page front) start run))))),
            tt,
          ),
    )

pub returns-clause-brings : goal.returns-clause-brings
returns-clause-brings g c =
    brings_on [] (g.W.Wire.shown c.args.wire.now).told (g.W.Wire.shown c.send_all.new.wire).told (g.W.Wire.shown c.close_all.new.wire).told
    (brings_on [] (g.W.Wire.shown c.args.wire.now).told (g.W.Wire.shown c.reach_out.new.wire).told (g.W.Wire.shown c.send_all.new.wire).told c.in_ok-reach_out.ensures.brings c.in_ok-send_all.ensures.brings)
    c.in_ok-close_all.ensures.brings
