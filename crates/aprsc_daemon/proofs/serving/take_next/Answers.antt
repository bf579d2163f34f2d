use Rattle.std.proofs.Common.{◌∷◌, ◌++◌, [], Err, length, sym, ap, ◌∙◌, subst}
use Rattle.aprs_history.specs.History.{ends_round}
use Rattle.front_history.specs.Serving.{GoesOn}
use Rattle.front_history.proofs.FrontLemmas.{turn_broken, turn_failed}
use Rattle.front_history.proofs.ServesLemmas.{ends_weaker, goes_to_end}
use Rattle.std.proofs.lemmas.Result.{err_from_is_err_and}
use Rattle.aprs_base.specs.declared.events.WireError.TheVariants as wire_error
use Rattle.aprsc_daemon.specs.Fronts.{state_of}
use Rattle.aprsc_daemon.specs.Phases.{BringsUp, Broken, Gathering, Counted, Idling}
use Rattle.aprsc_daemon.proofs.BringLemmas.{brings_turn}
use Rattle.aprsc_daemon.proofs.EventLemmas.{counted_next, err_any, err_inside, gathered_idles, run_gathers, turn_ports, whole_or_partial}
use Rattle.aprsc_daemon.proofs.JournalLemmas.{gathering_idles, part_breaks, push_breaks}
use Rattle.aprsc_daemon.proofs.serving.take_next.Goals as goal

pub returns-in_err-event-clause-idle : goal.returns-in_err-event-clause-idle
returns-in_err-event-clause-idle g c = λ s lines core first same told le counted failed.
    let events = c.args.events.now.items in
    let error = err_from_is_err_and c.from_residual.result c.from_residual.ensures.1 in
    let fell = ap Err (sym error.2 ∙ err_inside c.from_residual.result error.0 wire_error.Failed error.1 failed) in
    ends_weaker s (g.W.Wire.shown c.args.wire.now).told (state_of c.args.fronts.now) (g.W.Wire.shown c.next.new.inner).told (Gathering lines core events) (Gathering lines core events) (Idling s lines)
    (λ more. gathering_idles core events first (g.W.Wire.shown c.args.wire.now).links s more same c.requires le counted)
    (turn_failed s (g.W.Wire.shown c.args.wire.now).told (g.W.Wire.shown c.next.new.inner).told c.args.fronts.now.page c.args.fronts.now.http (Gathering lines core events) (c.in_err-event.ensures.failed fell) (λ more. gathered_idles s core events c.args.fronts.now.page.totals more same told c.requires))

pub returns-in_err-event-clause-err : goal.returns-in_err-event-clause-err
returns-in_err-event-clause-err g c = λ s lines core first same told le counted.
    let events = c.args.events.now.items in
    err_any c.from_residual.result (
    ends_weaker s (g.W.Wire.shown c.args.wire.now).told (state_of c.args.fronts.now) (g.W.Wire.shown c.next.new.inner).told (Gathering lines core events) (Gathering lines core events) (Broken s lines)
    (λ more. part_breaks s core events first (g.W.Wire.shown c.args.wire.now).links more same c.requires le counted)
    (turn_broken s (g.W.Wire.shown c.args.wire.now).told (g.W.Wire.shown c.next.new.inner).told c.args.fronts.now.page c.args.fronts.now.http (Gathering lines core events) c.in_err-event.ensures.some (λ more. gathered_idles s core events c.args.fronts.now.page.totals more same told c.requires)))

pub returns-in_err-reserve-clause-err : goal.returns-in_err-reserve-clause-err
returns-in_err-reserve-clause-err g c = λ s lines core first same told le counted.
    let events = c.args.events.now.items in
    let links = (g.W.Wire.shown c.next.new.inner).links in
    let now_counted = counted_next first events c.in_ok-event.event (g.W.Wire.shown c.args.wire.now).links links counted c.in_ok-event.ensures.counts in
    err_any c.from_residual-in_err-reserve.result (
    ends_weaker s (g.W.Wire.shown c.args.wire.now).told (state_of c.args.fronts.now) (g.W.Wire.shown c.next.new.inner).told (Gathering lines core events) (Gathering lines core (events ++ c.in_ok-event.event ∷ [])) (Broken s lines)
    (λ more. push_breaks s core events c.in_ok-event.event first links more same c.requires le now_counted)
    (goes_to_end s (g.W.Wire.shown c.args.wire.now).told (state_of c.args.fronts.now) (g.W.Wire.shown c.next.new.inner).told (state_of (record { page = c.next.new.self; http = c.next.new.http })) (Gathering lines core events) (Gathering lines core (events ++ c.in_ok-event.event ∷ []))
    (turn_ports (g.W.Wire.shown c.args.wire.now).told (g.W.Wire.shown c.next.new.inner).told c.args.fronts.now (record { page = c.next.new.self; http = c.next.new.http }) c.in_ok-event.event c.in_ok-event.ensures.turn)
    (run_gathers lines s (g.W.Wire.shown c.args.wire.now).told (g.W.Wire.shown c.next.new.inner).told c.args.fronts.now (record { page = c.next.new.self; http = c.next.new.http }) core events c.in_ok-event.event same told c.requires c.in_ok-event.ensures.turn)))

pub returns-clause-ports : goal.returns-clause-ports
returns-clause-ports g c = turn_ports (g.W.Wire.shown c.args.wire.now).told (g.W.Wire.shown c.next.new.inner).told c.args.fronts.now (record { page = c.next.new.self; http = c.next.new.http }) c.in_ok-event.event c.in_ok-event.ensures.turn

pub returns-clause-whole : goal.returns-clause-whole
returns-clause-whole g c =
    whole_or_partial c.is_last-whole.result c.args.events.now.items c.in_ok-event.event c.push_reserved.new.self.items c.requires
    (c.is_last-whole.ensures ∙ ap (λ n. ends_round n c.in_ok-event.event) (ap length c.as_slice.ensures.value)) (c.push_reserved.ensures.items ∙ ap (λ items. items ++ c.in_ok-event.event ∷ []) c.in_ok-reserve.ensures.items)

pub returns-clause-counted : goal.returns-clause-counted
returns-clause-counted g c = λ first counted.
    subst (λ events. Counted first events (g.W.Wire.shown c.next.new.inner).links) (sym (c.push_reserved.ensures.items ∙ ap (λ items. items ++ c.in_ok-event.event ∷ []) c.in_ok-reserve.ensures.items))
    (counted_next first c.args.events.now.items c.in_ok-event.event (g.W.Wire.shown c.args.wire.now).links (g.W.Wire.shown c.next.new.inner).links counted c.in_ok-event.ensures.counts)

pub returns-clause-run : goal.returns-clause-run
returns-clause-run g c = λ s lines core same told.
    subst (λ events. GoesOn s (g.W.Wire.shown c.args.wire.now).told (state_of c.args.fronts.now) (g.W.Wire.shown c.next.new.inner).told (state_of (record { page = c.next.new.self; http = c.next.new.http })) (Gathering lines core c.args.events.now.items) (Gathering lines core events)) (sym (c.push_reserved.ensures.items ∙ ap (λ items. items ++ c.in_ok-event.event ∷ []) c.in_ok-reserve.ensures.items))
    (run_gathers lines s (g.W.Wire.shown c.args.wire.now).told (g.W.Wire.shown c.next.new.inner).told c.args.fronts.now (record { page = c.next.new.self; http = c.next.new.http }) core c.args.events.now.items c.in_ok-event.event same told c.requires c.in_ok-event.ensures.turn)

pub returns-clause-brings : goal.returns-clause-brings
returns-clause-brings g c = λ at start same brought.
    subst (λ events. BringsUp at events start (g.W.Wire.shown c.next.new.inner).told) (sym (c.push_reserved.ensures.items ∙ ap (λ items. items ++ c.in_ok-event.event ∷ []) c.in_ok-reserve.ensures.items))
    (brings_turn at c.args.events.now.items start (g.W.Wire.shown c.args.wire.now).told (g.W.Wire.shown c.next.new.inner).told c.args.fronts.now (record { page = c.next.new.self; http = c.next.new.http }) c.in_ok-event.event same c.in_ok-event.ensures.turn brought)
