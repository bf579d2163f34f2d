use Rattle.std.proofs.Common.{ap, ◌∙◌, Some}
use Rattle.std.specs.Prelude.{slice_get}
use Rattle.net_history.specs.Network.{address_of, changed_at}
use Rattle.net_schedule.specs.Kept.{kept_downlink}
use Rattle.net_schedule.specs.Running.{WayKept}
use Rattle.net_schedule.proofs.JoinLemmas.{can_join, way_is_new}
use Rattle.net_schedule.proofs.joins.join.Goals as goal

pub returns-clause-servers : goal.returns-clause-servers
returns-clause-servers c = λ may.
    let pair = c.args.pair.now in
    let can = can_join c.args.servers.now pair may in
    let low = c.in_ok-join_low.ensures can.low can.low_at can.low_room in
    c.in_ok-join_high.ensures can.high (ap (λ xs. slice_get xs pair.high) low ∙ can.high_at) can.high_room
    ∙ ap (changed_at (kept_downlink pair.listener (address_of pair.low)) pair.high) low

pub returns-clause-ways : goal.returns-clause-ways
returns-clause-ways c = λ may.
    let pair = c.args.pair.now in
    let can = can_join c.args.servers.now pair may in
    let low = c.in_ok-join_low.ensures can.low can.low_at can.low_room in
    c.put.ensures
    ∙ ap (λ (way : WayKept). changed_at (λ before. Some way) c.args.number c.args.ways.now)
    (way_is_new c.args.servers.now pair can c.next_end-low.result c.next_end-high.result c.new.result.items c.new-2.result.items
    (c.next_end-low.ensures can.low can.low_at can.low_room) (c.next_end-high.ensures can.high (ap (λ xs. slice_get xs pair.high) low ∙ can.high_at) can.high_room) c.new.ensures.items c.new-2.ensures.items)
