use Rattle.std.proofs.Common.{◌∷◌, [], None, refl, sym, ap, ◌∙◌, subst}
use Rattle.std.specs.Arc.{arc_value}
use Rattle.std.specs.Prelude.{slice_get}
use Rattle.aprs_base.specs.Outside.{with_cast}
use Rattle.aprs_base.specs.declared.events.Happening.TheVariants as did
use Rattle.link_queue.specs.Lines.{ended_line}
use Rattle.aprs_history.specs.Dials.{CastSeen}
use Rattle.front_history.specs.Answers.{front_state}
use Rattle.front_history.specs.Serving.{Serves}
use Rattle.aprsc_daemon.specs.Phases.{Acting}
use Rattle.aprsc_daemon.proofs.BringLemmas.{brings_told}
use Rattle.aprsc_daemon.proofs.ReachLemmas.{cast_there, found_at, missed_at, ok_both, ok_then, run_casts}
use Rattle.aprsc_daemon.proofs.serving.cast_one.Goals as goal

pub returns-in-Some-clause-run : goal.returns-in-Some-clause-run
returns-in-Some-clause-run g c = λ s lines core casts offers closes same peers.
    let cast : CastSeen = record { peer = c.cast.inside.peer; line = arc_value c.cast.inside.line } in
    ok_both c.cast-in-Some.result c.cast-in-Some.ensures.after.ok c.cast-in-Some.ensures.counted (λ is counted front start run.
    run_casts lines s (g.W.Wire.shown c.args.wire.now).told (g.W.Wire.shown c.cast-in-Some.new.inner).told c.args.fronts.now.page c.cast-in-Some.new.self core cast c.in-Some.peer.now c.as_slice.result.now casts offers closes same
    (ap (λ xs. slice_get xs c.cast.inside.peer) peers ∙ found_at c.args.peers.now c.from.result c.cast.inside.peer c.in-Some.peer.now c.from.ensures c.in-Some.ensures.lookup.3.0 c.in-Some.ensures.lookup.1) (c.as_slice.ensures.value ∙ c.datagram_of-bytes.ensures ∙ ap ended_line c.deref.ensures) counted is front start
    (subst (λ x. Serves s start (g.W.Wire.shown c.args.wire.now).told (front_state c.args.fronts.now.page front) (Acting lines core None (x ∷ casts) offers closes)) (sym c.cast.view_is) run))

pub returns-in-None-clause-run : goal.returns-in-None-clause-run
returns-in-None-clause-run g c = λ s lines core casts offers closes same peers.
    let cast : CastSeen = record { peer = c.cast.inside.peer; line = arc_value c.cast.inside.line } in λ front start run.
    let state = front_state c.args.fronts.now.page front in
    cast_there lines s (g.W.Wire.shown c.args.wire.now).told core cast casts offers closes same (ap (λ xs. slice_get xs c.cast.inside.peer) peers ∙ missed_at c.args.peers.now c.from.result c.cast.inside.peer c.from.ensures c.in-None.ensures.lookup.3) state start
    (subst (λ x. Serves s start (g.W.Wire.shown c.args.wire.now).told state (Acting lines core None (x ∷ casts) offers closes)) (sym c.cast.view_is) run)

pub returns-in-Some-clause-brings : goal.returns-in-Some-clause-brings
returns-in-Some-clause-brings g c =
    ok_then c.cast-in-Some.result c.cast-in-Some.ensures.after.ok
    (brings_told (did.Cast c.cast.inside.peer c.as_slice.result.now) (with_cast c.cast.inside.peer c.in-Some.peer.now.at c.as_slice.result.now) [] (g.W.Wire.shown c.args.wire.now).told (g.W.Wire.shown c.cast-in-Some.new.inner).told (λ told. refl) refl)
