use Rattle.std.proofs.Common.{◌+◌, [], drop, sym, ap, ◌∙◌, subst, get_or}
use Rattle.std.proofs.lemmas.List.{drop_all}
use Rattle.aprs_history.specs.Trace.{is_member}
use Rattle.front_history.specs.Answers.{front_state}
use Rattle.front_history.specs.Serving.{SendsOn, Serves}
use Rattle.server_core.specs.Meaning.{setting_of}
use Rattle.server_core.proofs.LinkLemmas.{served_numbers}
use Rattle.server_core.proofs.WholeRoundLemmas.{next_item}
use Rattle.aprsc_daemon.specs.Phases.{Offering}
use Rattle.server_core.proofs.OfferLemmas.{first_differs, member_at, same_at}
use Rattle.aprsc_daemon.specs.Phases.{Broken}
use Rattle.aprsc_daemon.proofs.BringLemmas.{brings_on}
use Rattle.aprsc_daemon.proofs.EventLemmas.{err_any}
use Rattle.aprsc_daemon.proofs.serving.send_all.Goals as goal

pub send_one-requires-clause-served : goal.send_one-requires-clause-served
send_one-requires-clause-served g c =
    let offers = c.args.offers.now in
    let i = c.loop-link.link-index in
    let member = member_at offers i 0 c.loop-link-test.true in
    served_numbers _ c.loop-link.core.seen.links
    ∙ ap (is_member (get_or offers i 0)) c.loop-link.invariant.1
    ∙ sym (served_numbers _ c.args.core.now.seen.links)
    ∙ c.requires.served _ member

pub loop-link-preserved : goal.loop-link-preserved
loop-link-preserved g c =
    let was = c.loop-link.invariant.0 in
    let now = c.send_one.ensures.rest in
    let offers = c.args.offers.now in
    let i = c.loop-link.link-index in
    let left = next_item offers i (get_or offers i 0) c.loop-link-test.true (same_at offers i 0 _ c.loop-link-test.true) in (
      record { conf = now.conf ∙ was.conf; greatest = now.greatest ∙ was.greatest; stopped = now.stopped ∙ was.stopped },
      c.send_one.ensures.numbers ∙ c.loop-link.invariant.1,
      (c.send_one.ensures.failures.0 ∙ c.loop-link.invariant.2.0, c.send_one.ensures.failures.1 ∙ c.loop-link.invariant.2.1),
      c.send_one.ensures.links ∙ c.loop-link.invariant.3,
      brings_on [] (g.W.Wire.shown c.args.wire.now).told (g.W.Wire.shown c.loop-link.wire).told (g.W.Wire.shown c.send_one.new.wire).told c.loop-link.invariant.4 c.in_ok-send_one.ensures.brings,
      c.send_one.auto.buffer ∙ c.loop-link.invariant.5,
      c.send_one.ensures.front ∙ c.loop-link.invariant.6,
      c.send_one.ensures.port ∙ c.loop-link.invariant.7,
      λ s lines closes same front start run.
          c.in_ok-send_one.ensures.run s lines (drop (i + 1) offers) closes (ap setting_of was.conf ∙ same) (first_differs 0 c.requires.rising.0 offers i (get_or offers i 0) (drop (i + 1) offers) c.requires.rising.1 left) front start
          (subst (λ links. Serves s start (g.W.Wire.shown c.loop-link.wire).told (front_state c.loop-link.fronts.page front) (Offering lines c.loop-link.core links closes)) left (c.loop-link.invariant.8 s lines closes same front start run)),
    )

pub returns-in_err-send_one-clause-err : goal.returns-in_err-send_one-clause-err
returns-in_err-send_one-clause-err g c = λ s lines closes same.
    let offers = c.args.offers.now in
    let i = c.loop-link.link-index in
    let left = next_item offers i (get_or offers i 0) c.loop-link-test.true (same_at offers i 0 _ c.loop-link-test.true) in
    err_any {P = SendsOn s (g.W.Wire.shown c.args.wire.now).told c.args.fronts.now.page (g.W.Wire.shown c.send_one.new.wire).told c.send_one.new.fronts.page (Offering lines c.args.core.now c.args.offers.now closes) (Broken s lines)} c.from_residual.result (λ front start run.
    c.in_err-send_one.ensures.err s lines (drop (i + 1) offers) closes (ap setting_of c.loop-link.invariant.0.conf ∙ same) (first_differs 0 c.requires.rising.0 offers i (get_or offers i 0) (drop (i + 1) offers) c.requires.rising.1 left) front start
    (subst (λ links. Serves s start (g.W.Wire.shown c.loop-link.wire).told (front_state c.loop-link.fronts.page front) (Offering lines c.loop-link.core links closes)) left (c.loop-link.invariant.8 s lines closes same front start run)))

pub returns-clause-run : goal.returns-clause-run
returns-clause-run g c = λ s lines closes same front start run.
    subst (λ left. Serves s start (g.W.Wire.shown c.loop-link.wire).told (front_state c.loop-link.fronts.page front) (Offering lines c.loop-link.core left closes)) (drop_all c.loop-link.link-index c.args.offers.now c.loop-link-test.false) (c.loop-link.invariant.8 s lines closes same front start run)
