use Rattle.std.proofs.Common.{◌+◌, drop, ap, ◌∙◌}
use Rattle.std.proofs.Math.ListN.{drop_of_length-le}
use Rattle.aprs_history.specs.Rounds.{greatest_after, stopped_after}
use Rattle.server_core.proofs.WholeRoundLemmas.{next_item, round_next, round_stands, round_told, walk_begins, whole_round}
use Rattle.server_core.proofs.server.State.round.Goals as goal

pub loop-event-init : goal.loop-event-init
loop-event-init g c =
    walk_begins c.args.self.now c.look_ahead.new.self c.args.events.now c.tell_lost.new.lines.items c.requires.whole c.requires.fresh c.requires.going (rw c.in_ok-look_ahead.ensures c.in_ok-begin.ensures.rest)

pub loop-event-preserved : goal.loop-event-preserved
loop-event-preserved g c =
    round_next c.look_ahead.new.self c.args.events.now c.settle_before.new.self c.take_event.new.self (drop c.loop-event.event-index c.args.events.now) c.event-item.result
    (drop (c.loop-event.event-index + 1) c.args.events.now) (next_item c.args.events.now c.loop-event.event-index c.event-item.result c.loop-event-test.true c.event-item.is)
    c.tell_lost.new.lines.items c.loop-event.lines.items c.take_event.new.lines.items (rw c.in_ok-settle_before.ensures c.loop-event.invariant) c.in_ok-take_event.ensures.walks c.in_ok-take_event.ensures.tells c.in_ok-take_event.ensures.rest

pub returns : goal.returns
returns g c =
    let old = c.args.self.now in
    let begun = c.look_ahead.new.self in
    let walked = c.loop-event.self in
    let new = c.finish.new.self in
    let events = c.args.events.now in
    let lines = c.tell_lost.new.lines.items in
    let round = whole_round old begun walked new events (drop c.loop-event.event-index events) lines c.loop-event.lines.items (drop_of_length-le events c.loop-event-test.false) c.requires.whole c.requires.going
    c.in_ok-begin.ensures.lasts (rw c.in_ok-look_ahead.ensures c.in_ok-begin.ensures.walks) (rw c.in_ok-look_ahead.ensures c.in_ok-begin.ensures.rest) c.loop-event.invariant c.in_ok-finish.ensures.follows c.in_ok-finish.ensures.rest in
    record {
      conf = round.kept.conf ∙ round.walking.conf ∙ round.rest.conf;
      greatest = round.kept.greatest ∙ round.walking.greatest ∙ ap (greatest_after events) round.rest.greatest;
      stopped = round.kept.stopped ∙ round.walking.stopped ∙ ap (stopped_after events) (round.rest.stopped ∙ c.requires.going);
      rests = c.in_ok-finish.ensures.rests;
      stands = λ h stands. round_stands old begun walked new events lines c.loop-event.lines.items round h stands;
      lines = λ h stands. round_told old begun walked new events lines c.loop-event.lines.items round h stands c.args.lines.now.items c.finish.new.lines.items c.in_ok-tell_lost.ensures c.in_ok-finish.ensures.tells c.requires.fresh;
    }
