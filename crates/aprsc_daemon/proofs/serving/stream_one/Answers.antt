use Rattle.std.proofs.Common.{◌<◌, ◌∷◌, ◌∙◌, [], ap, arith, length, length-take, refl, subst, sym}
use Rattle.aprs_history.specs.Downs.{whole_lines}
use Rattle.front_history.specs.Answers.{front_state}
use Rattle.front_history.specs.Serving.{SendsOn, Serves}
use Rattle.server_core.specs.LinkSteps.{pending_at}
use Rattle.server_core.specs.Meaning.{Stands}
use Rattle.server_core.specs.Sending.{bytes_in, with_lines}
use Rattle.aprsc_daemon.specs.Phases.{Broken, Offering, Sending}
use Rattle.aprsc_daemon.proofs.EventLemmas.{err_any}
use Rattle.aprsc_daemon.proofs.SendingLemmas.{lines_begin, lines_end, no_bytes, some_lines}
use Rattle.aprsc_daemon.proofs.serving.stream_one.Goals as goal

pub took-requires-clause-small : goal.took-requires-clause-small
took-requires-clause-small g c =
    let size = length-take 65536 (pending_at c.args.link c.args.core.now.seen.links) in
    omega (arith, ap length c.next_bytes-bytes.ensures.bytes)

pub took-requires-clause-pending : goal.took-requires-clause-pending
took-requires-clause-pending g c =
    let size = length-take 65536 (pending_at c.args.link c.args.core.now.seen.links) in
    omega (arith, ap length c.next_bytes-bytes.ensures.bytes)

pub returns-in_err-count-clause-err : goal.returns-in_err-count-clause-err
returns-in_err-count-clause-err g c = λ s lines offers closes same other.
    let told = (g.W.Wire.shown c.args.wire.now).told in
    let bytes = c.next_bytes-bytes.result.now in
    err_any {P = SendsOn s told c.args.fronts.now.page (g.W.Wire.shown c.cast_lines.new.wire).told c.cast_lines.new.fronts.page (Offering lines c.args.core.now (c.args.link ∷ offers) closes) (Broken s lines)} c.from_residual.result (λ front start run.
    c.in_err-count.ensures.err s lines c.args.core.now c.args.link offers closes same other front start
    (lines_begin lines s c.args.core.now c.args.link c.args.down offers closes same told bytes other c.next_bytes-bytes.ensures.next c.requires.same (front_state c.args.fronts.now.page front) start run))

pub returns-then-count-gt0-clause-run : goal.returns-then-count-gt0-clause-run
returns-then-count-gt0-clause-run g c = λ s lines offers closes same other front start run.
    let told = (g.W.Wire.shown c.args.wire.now).told in
    let bytes = c.next_bytes-bytes.result.now in
    let core = c.args.core.now in
    let some = some_lines (whole_lines bytes) (subst (λ n. 0 < n) c.in_ok-count.ensures.count c.if-count-gt0.true) in
    lines_end lines s core c.args.link c.args.down offers closes same (g.W.Wire.shown c.cast_lines.new.wire).told c.took.new.self (whole_lines bytes) c.took.ensures.rest.conf
    (λ h stands. subst (λ ls. Stands c.took.new.self (with_lines c.args.link ls h)) (sym some.2)
    (c.took.ensures.sends h c.args.down some.0 some.1 c.requires.down (ap bytes_in (sym some.2) ∙ sym c.in_ok-count.ensures.count) stands))
    (front_state c.cast_lines.new.fronts.page front) start
    (c.in_ok-count.ensures.run s lines core c.args.link offers closes same other front start
    (lines_begin lines s core c.args.link c.args.down offers closes same told bytes other c.next_bytes-bytes.ensures.next c.requires.same (front_state c.args.fronts.now.page front) start run))

pub returns-else-count-gt0-clause-run : goal.returns-else-count-gt0-clause-run
returns-else-count-gt0-clause-run g c = λ s lines offers closes same other front start run.
    let told = (g.W.Wire.shown c.args.wire.now).told in
    let bytes = c.next_bytes-bytes.result.now in
    let core = c.args.core.now in
    let none = no_bytes bytes (sym c.in_ok-count.ensures.count ∙ omega (arith, c.if-count-gt0.false)) in
    lines_end lines s core c.args.link c.args.down offers closes same (g.W.Wire.shown c.cast_lines.new.wire).told core [] refl (λ h stands. stands)
    (front_state c.cast_lines.new.fronts.page front) start
    (subst (λ ls. Serves s start (g.W.Wire.shown c.cast_lines.new.wire).told (front_state c.cast_lines.new.fronts.page front) (Sending lines core c.args.link c.args.down ls [] offers closes)) none
    (c.in_ok-count.ensures.run s lines core c.args.link offers closes same other front start
    (lines_begin lines s core c.args.link c.args.down offers closes same told bytes other c.next_bytes-bytes.ensures.next c.requires.same (front_state c.args.fronts.now.page front) start run)))
