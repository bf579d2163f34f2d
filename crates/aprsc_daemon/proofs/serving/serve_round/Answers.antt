use Rattle.std.proofs.Common.{◌++◌, [], append-nil, refl, sym, ap, ◌∙◌, subst, Err}
use Rattle.std.proofs.lemmas.Result.{err_from_is_err_and}
use Rattle.aprs_base.specs.declared.events.WireError.TheVariants as wire_error
use Rattle.aprs_history.specs.Rounds.{AreFresh}
use Rattle.front_history.specs.Answers.{front_state}
use Rattle.front_history.specs.Serving.{EndsOn, Serves}
use Rattle.front_history.proofs.ServesLemmas.{goes_then_ends}
use Rattle.status_page.specs.PageFronts.{PageSeen}
use Rattle.aprs_history.specs.History.{History}
use Rattle.aprsc_daemon.specs.Fronts.{state_of}
use Rattle.aprs_base.proofs.SlotLemmas.{each_takes-none}
use Rattle.aprsc_daemon.specs.Phases.{Broken, Gathering, Idling, Resting}
use Rattle.aprsc_daemon.proofs.BringLemmas.{brings_up_on}
use Rattle.aprsc_daemon.proofs.EventLemmas.{err_any, err_inside, fresh_above, memory_is_no_fault, no_ok, numbered_after, ok_is_no_err}
use Rattle.aprsc_daemon.proofs.ServeLemmas.{acts_keep, begins_round, publishing_keeps}
use Rattle.aprsc_daemon.proofs.serving.serve_round.Goals as goal

pub returns-in_err-gather-clause-run : goal.returns-in_err-gather-clause-run
returns-in_err-gather-clause-run g c = (
  [],
  each_takes-none (λ z. (goal.Journal-dyn g z).journal_shown z.1) c.args.journals.now.items,
  λ s lines same.
      let start = (g.W.Wire.shown c.args.wire.now).told in
      let now = (g.W.Wire.shown c.gather.new.wire).told in
      let fronts = c.args.fronts.now in
      let core = c.args.core.now in
      let page = c.publish.new.self in
      let totals = c.totals.result in
      let error = err_from_is_err_and c.from_residual.result c.from_residual.ensures.1 in
      let told = ap {A = PageSeen} (λ p. p.totals) c.publish.ensures ∙ c.totals.ensures.kept in
      let then : (R : History → Type 0) → EndsOn s start (front_state page fronts.http) now (Gathering lines core []) R → EndsOn s start (state_of fronts) now (Resting lines core) R =
      λ R. goes_then_ends s start (state_of fronts) start (front_state page fronts.http) now (Resting lines core) (Gathering lines core []) R (publishing_keeps fronts page totals c.publish.ensures)
      (begins_round lines s start core fronts page totals c.requires.going c.publish.ensures) in (
        no_ok _ c.from_residual.result error.0 error.1,
        err_any {P = EndsOn s start (state_of fronts) now (Resting lines core) (Broken s (lines ++ []))} c.from_residual.result
            (subst (λ all. EndsOn s start (state_of fronts) now (Resting lines core) (Broken s all)) (sym (append-nil lines)) (then (Broken s lines) (c.in_err-gather.ensures.err s lines core same told c.requires.numbered))),
        λ failed.
            subst (λ all. EndsOn s start (state_of fronts) now (Resting lines core) (Idling s all)) (sym (append-nil lines))
            (then (Idling s lines) (c.in_err-gather.ensures.idle s lines core same told c.requires.numbered (ap Err (sym error.2 ∙ err_inside c.from_residual.result error.0 wire_error.Failed error.1 failed)))),
      ),
)

pub returns-in-Ok-clause-run : goal.returns-in-Ok-clause-run
returns-in-Ok-clause-run g c =
    let told = c.in-Ok.ensures.run in (
      told.0,
      told.1,
      λ s lines same. (
        λ start run.
            let first = (g.W.Wire.shown c.args.wire.now).told in
            let mid = (g.W.Wire.shown c.gather.new.wire).told in
            let core = c.args.core.now in
            let known = ap {A = PageSeen} (λ p. p.totals) c.publish.ensures ∙ c.totals.ensures.kept in
            subst (λ http. Serves s start (g.W.Wire.shown c.act.new.wire).told (front_state c.act.new.fronts.page http) (Resting (lines ++ told.0) c.act.new.core)) (sym c.act.ensures.front)
            ((told.2 s lines same).0 c.gather.new.fronts.http start
            (subst (λ events. Serves s start mid (state_of c.gather.new.fronts) (Gathering lines core events)) (sym c.as_slice.ensures.value)
            (c.in_ok-gather.ensures.run s lines core same known start (begins_round lines s first core c.args.fronts.now c.publish.new.self c.totals.result c.requires.going c.publish.ensures start run)))),
        tt,
        λ failed. absurd (ok_is_no_err _ _ _ refl failed),
      ),
    )

pub returns-in-Err-clause-run : goal.returns-in-Err-clause-run
returns-in-Err-clause-run g c =
    let told = c.in-Err.ensures.run in (
      told.0,
      told.1,
      λ s lines same. (
        tt,
        λ start run.
            let first = (g.W.Wire.shown c.args.wire.now).told in
            let mid = (g.W.Wire.shown c.gather.new.wire).told in
            let core = c.args.core.now in
            let fronts = c.args.fronts.now in
            let known = ap {A = PageSeen} (λ p. p.totals) c.publish.ensures ∙ c.totals.ensures.kept in (
              front_state c.act.new.fronts.page c.gather.new.fronts.http,
              ap (λ page. record { page = page; upload = c.gather.new.fronts.http.at }) c.act.ensures.port ∙ c.in_ok-gather.ensures.ports ∙ publishing_keeps fronts c.publish.new.self c.totals.result c.publish.ensures,
              (told.2 s lines same).1 c.gather.new.fronts.http start
                  (subst (λ events. Serves s start mid (state_of c.gather.new.fronts) (Gathering lines core events)) (sym c.as_slice.ensures.value)
                  (c.in_ok-gather.ensures.run s lines core same known start (begins_round lines s first core fronts c.publish.new.self c.totals.result c.requires.going c.publish.ensures start run))),
            ),
        λ failed. absurd (memory_is_no_fault (err_inside _ wire_error.Memory wire_error.Failed refl failed)),
      ),
    )

pub returns-in-Ok-clause-ports : goal.returns-in-Ok-clause-ports
returns-in-Ok-clause-ports g c =
    acts_keep c.gather.new.fronts c.act.new.fronts c.act.ensures.front c.act.ensures.port ∙ c.in_ok-gather.ensures.ports
    ∙ publishing_keeps c.args.fronts.now c.publish.new.self c.totals.result c.publish.ensures

pub act-requires-clause-fresh : goal.act-requires-clause-fresh
act-requires-clause-fresh g c κs within =
    subst (AreFresh c.args.core.now.seen.greatest) (sym c.as_slice.ensures.value)
    (fresh_above c.gather.new.events.items c.args.core.now.seen.greatest (g.W.Wire.shown c.args.wire.now).links c.requires.numbered c.in_ok-gather.ensures.counted.fresh).0

pub returns-in-Ok-clause-numbered : goal.returns-in-Ok-clause-numbered
returns-in-Ok-clause-numbered g c =
    numbered_after c.act.new.core.seen.greatest c.args.core.now.seen.greatest (g.W.Wire.shown c.args.wire.now).links (g.W.Wire.shown c.gather.new.wire).links (g.W.Wire.shown c.act.new.wire).links
    c.as_slice.result.now c.gather.new.events.items c.as_slice.ensures.value c.requires.numbered c.in_ok-gather.ensures.counted c.in-Ok.ensures.greatest c.in-Ok.ensures.links

pub returns-in-Ok-clause-brings : goal.returns-in-Ok-clause-brings
returns-in-Ok-clause-brings g c =
    brings_up_on c.args.fronts.now.http.at c.gather.new.events.items (g.W.Wire.shown c.args.wire.now).told (g.W.Wire.shown c.gather.new.wire).told (g.W.Wire.shown c.act.new.wire).told c.in_ok-gather.ensures.brings c.in-Ok.ensures.brings
