use Rattle.std.proofs.Common.{◌+◌, ◌∷◌, ◌++◌, ◌∙◌, [], ap, append_assoc, arith, length, length-append, subst, sym}
use Rattle.aprs_history.specs.Downs.{whole_lines}
use Rattle.front_history.specs.Answers.{front_state}
use Rattle.front_history.specs.Serving.{SendsOn, Serves}
use Rattle.server_core.specs.Sending.{bytes_in}
use Rattle.aprsc_daemon.specs.Phases.{Broken, Sending}
use Rattle.aprsc_daemon.proofs.BringLemmas.{brings_on}
use Rattle.aprsc_daemon.proofs.EventLemmas.{err_any}
use Rattle.aprsc_daemon.proofs.SendingLemmas.{bytes_both, lines_break}
use Rattle.aprsc_daemon.proofs.serving.cast_lines.Goals as goal

pub loop-line-preserved : goal.loop-line-preserved
loop-line-preserved g c =
    let kept = c.loop-line.invariant in
    let done = kept.5 in
    let line = c.in-Some.line.now in
    let behind = c.in-Some.behind.now in
    let cut = c.in-Some.ensures.some in
    let split = ap length cut.1 ∙ length-append line behind in
    let more = bytes_both done.0 (line ∷ []) in
    let before = done.2 in (
      (c.cast_line.ensures.failures.0 ∙ kept.0.0, c.cast_line.ensures.failures.1 ∙ kept.0.1),
      c.cast_line.ensures.links ∙ kept.1,
      brings_on [] (g.W.Wire.shown c.args.wire.now).told (g.W.Wire.shown c.loop-line.wire).told (g.W.Wire.shown c.cast_line.new.wire).told kept.2 c.in_ok-cast_line.ensures.brings,
      c.cast_line.ensures.front ∙ kept.3,
      c.cast_line.ensures.port ∙ kept.4,
      (
        done.0 ++ line ∷ [],
        done.1 ∙ ap (λ lines. done.0 ++ lines) cut.0 ∙ sym (append_assoc done.0 (line ∷ []) (whole_lines behind)),
        omega (arith, split, more, before),
        λ s lines core link offers closes same other front start run.
            c.in_ok-cast_line.ensures.run s lines core link done.0 (whole_lines behind) offers closes same other front start
            (subst (λ left. Serves s start (g.W.Wire.shown c.loop-line.wire).told (front_state c.loop-line.fronts.page front) (Sending lines core link c.args.down done.0 left offers closes)) cut.0
            (done.3 s lines core link offers closes same other front start run)),
      ),
    )

pub returns-in_err-cast_line-clause-err : goal.returns-in_err-cast_line-clause-err
returns-in_err-cast_line-clause-err g c = λ s lines core link offers closes same other.
    let done = c.loop-line.invariant.5 in
    err_any {P = SendsOn s (g.W.Wire.shown c.args.wire.now).told c.args.fronts.now.page (g.W.Wire.shown c.cast_line.new.wire).told c.cast_line.new.fronts.page (Sending lines core link c.args.down [] (whole_lines c.args.bytes.now) offers closes) (Broken s lines)} c.from_residual.result (λ front start run.
    lines_break lines s core link c.args.down offers closes same (g.W.Wire.shown c.loop-line.wire).told (g.W.Wire.shown c.cast_line.new.wire).told c.loop-line.fronts.page c.cast_line.new.fronts.page done.0 (whole_lines c.loop-line.rest.now)
    c.in_err-cast_line.ensures.err (ap (λ f. f.page) c.in_err-cast_line.ensures.uncounted) front start (done.3 s lines core link offers closes same other front start run))
