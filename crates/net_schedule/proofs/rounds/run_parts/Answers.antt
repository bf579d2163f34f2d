use Rattle.std.proofs.Common.{◌++◌, sym, ap, ◌∙◌, take, drop, subst}
use Rattle.aprs_history.specs.Rounds.{is_whole}
use Rattle.net_schedule.specs.Standing.{Turns}
use Rattle.net_schedule.specs.Waiting.{EndsByTick, IsReady, Runs}
use Rattle.net_schedule.proofs.RoundLemmas.{first_whole, rest_ticks}
use Rattle.net_schedule.proofs.RunLemmas.{may_come, none_left_of, runs_end, runs_first, runs_next, take_least, turning_there}
use Rattle.net_schedule.proofs.rounds.run_parts.Goals as goal

pub loop-rest-init : goal.loop-rest-init
loop-rest-init g c = (c.requires.ends, λ brought n turns ready. runs_first c.args.number brought n c.args.events.now c.args.servers.now c.args.ways.now turns ready)

pub run_part-requires-clause-there : goal.run_part-requires-clause-there
run_part-requires-clause-there g c κs within =
    let first = c.requires.ready in
    let runs = c.loop-rest.invariant.1 first.1 first.0 first.2 first.3 in
    (turning_there c.args.number c.loop-rest.rest.now c.loop-rest.servers runs.now.servers runs.ready.server runs.turns.servers runs.ready.there).2

pub run_part-requires-clause-whole : goal.run_part-requires-clause-whole
run_part-requires-clause-whole g c κs within =
    ap (is_whole 0) (c.split_at.ensures.front ∙ ap (λ k. take k c.loop-rest.rest.now) c.min.ensures ∙ take_least 512 c.loop-rest.rest.now)
    ∙ first_whole c.loop-rest.rest.now c.loop-rest.invariant.0 c.loop-rest-test.true

pub run_part-requires-clause-ready : goal.run_part-requires-clause-ready
run_part-requires-clause-ready g c κs within =
    let first = c.requires.ready in
    let runs = c.loop-rest.invariant.1 first.1 first.0 first.2 first.3 in
    subst (λ part. IsReady c.args.number part c.loop-rest.servers) (sym c.split_at.ensures.front)
    (may_come c.args.number c.min.result c.loop-rest.rest.now first.1 c.loop-rest.servers c.loop-rest.ways runs.now runs.turns runs.ready)

pub loop-rest-preserved : goal.loop-rest-preserved
loop-rest-preserved g c =
    let rest = c.loop-rest.rest.now in
    let k = c.min.result in
    let front = c.split_at.ensures.front in
    let back = c.split_at.ensures.back in
    let whole = ap (is_whole 0) (ap (λ j. take j rest) c.min.ensures ∙ take_least 512 rest) ∙ first_whole rest c.loop-rest.invariant.0 c.loop-rest-test.true in (
      subst EndsByTick (sym back) (rest_ticks k rest c.loop-rest.invariant.0),
      λ brought n turns ready.
          subst (λ later. Runs c.args.number brought (Rattle.net_history.specs.Serving.with_all c.args.number c.args.events.now n) later c.run_part.new.servers c.run_part.new.ways) (sym back)
          (runs_next c.args.number k brought (Rattle.net_history.specs.Serving.with_all c.args.number c.args.events.now n) rest c.loop-rest.servers c.run_part.new.servers c.loop-rest.ways c.run_part.new.ways c.loop-rest.invariant.0 whole
          (λ m turned. subst (λ part. Turns c.args.number (drop k rest) brought c.run_part.new.servers c.run_part.new.ways (Rattle.net_history.specs.Serving.with_all c.args.number part m)) front
          (c.in_ok-run_part.ensures (drop k rest) brought m (subst (λ part. Turns c.args.number (part ++ drop k rest) brought c.loop-rest.servers c.loop-rest.ways m) (sym front) turned)))
          (c.loop-rest.invariant.1 brought n turns ready)),
    )

pub returns : goal.returns
returns g c = λ brought n turns ready.
    runs_end c.args.number brought _ c.loop-rest.rest.now c.loop-rest.servers c.loop-rest.ways (none_left_of c.loop-rest.rest.now c.loop-rest-test.false) (c.loop-rest.invariant.1 brought n turns ready)
