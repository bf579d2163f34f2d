use Rattle.std.proofs.Common.{◌<◌, ◌++◌, ◌∷◌, [], sym, ap, ◌∙◌, get_or, length, subst}
use Rattle.std.specs.Prelude.{slice_get}
use Rattle.aprs_base.specs.declared.events.Event.TheVariants as event
use Rattle.net_history.specs.Serving.{with_round}
use Rattle.net_schedule.specs.Standing.{Goes}
use Rattle.net_schedule.proofs.ListLemmas.{get_some, on_ok}
use Rattle.net_schedule.proofs.RunLemmas.{begins_ticking, runs_begun, turned_goes}
use Rattle.net_schedule.proofs.rounds.run.Goals as goal

pub run_parts-requires-clause-ends : goal.run_parts-requires-clause-ends
run_parts-requires-clause-ends g c κs within =
    let first = c.requires.ready in
    let item = c.index-servers-from.result in
    let place = c.from.result in
    let lt = subst (λ p. p < length c.args.servers.now) (sym c.from.ensures) c.requires.there in
    let kept = get_or c.args.servers.now place item in
    let at = ap (slice_get c.args.servers.now) (sym c.from.ensures) ∙ get_some c.args.servers.now place item lt in
    let is = c.as_slice.ensures.value ∙ c.in_ok-push.ensures.items ∙ ap (λ events. events ++ event.Tick c.args.moment ∷ []) c.take_arrivals-events.ensures.waited in
    begins_ticking c.args.number c.args.moment first.0 kept c.args.servers.now c.args.ways.now first.1 c.as_slice.result.now at is first.2 first.3

pub run_parts-requires-clause-ready : goal.run_parts-requires-clause-ready
run_parts-requires-clause-ready g c κs within =
    let first = c.requires.ready in
    let item = c.index-servers-from.result in
    let place = c.from.result in
    let lt = subst (λ p. p < length c.args.servers.now) (sym c.from.ensures) c.requires.there in
    let kept = get_or c.args.servers.now place item in
    let at = ap (slice_get c.args.servers.now) (sym c.from.ensures) ∙ get_some c.args.servers.now place item lt in
    let is = c.as_slice.ensures.value ∙ c.in_ok-push.ensures.items ∙ ap (λ events. events ++ event.Tick c.args.moment ∷ []) c.take_arrivals-events.ensures.waited in
    let runs = runs_begun c.args.number place c.args.moment first.1 first.0 c.args.servers.now c.args.ways.now kept c.take_arrivals-events.new.server c.as_slice.result.now at is c.from.ensures c.take_arrivals-events.ensures.none first.2 first.3 in
    (runs.now, first.1, runs.turns, runs.ready)

pub returns : goal.returns
returns g c = λ brought n goes waits.
    let item = c.index-servers-from.result in
    let place = c.from.result in
    let lt = subst (λ p. p < length c.args.servers.now) (sym c.from.ensures) c.requires.there in
    let kept = get_or c.args.servers.now place item in
    let at = ap (slice_get c.args.servers.now) (sym c.from.ensures) ∙ get_some c.args.servers.now place item lt in
    let is = c.as_slice.ensures.value ∙ c.in_ok-push.ensures.items ∙ ap (λ events. events ++ event.Tick c.args.moment ∷ []) c.take_arrivals-events.ensures.waited in
    let runs = runs_begun c.args.number place c.args.moment brought n c.args.servers.now c.args.ways.now kept c.take_arrivals-events.new.server c.as_slice.result.now at is c.from.ensures c.take_arrivals-events.ensures.none goes waits in
    on_ok c.run_parts.result
    (λ turned. turned_goes c.args.number brought c.run_parts.new.servers c.run_parts.new.ways (with_round c.args.number c.args.moment n) (subst (Rattle.net_schedule.specs.Standing.Turns c.args.number [] brought c.run_parts.new.servers c.run_parts.new.ways) runs.left turned))
    (c.run_parts.ensures brought runs.now runs.turns runs.ready)
