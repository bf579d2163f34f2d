use Rattle.std.proofs.Common.{◌≡◌, sym, ap, ◌∙◌, subst, OnOk}
use Rattle.std.specs.Prelude.{slice_get}
use Rattle.aprs_base.specs.declared.events.Event.TheVariants as event
use Rattle.link_queue.specs.Lines.{ended_line}
use Rattle.net_history.specs.Network.{address_of, changed_at}
use Rattle.std.specs.Option.{option_map}
use Rattle.net_history.specs.Places.{Each}
use Rattle.net_history.specs.Serving.{with_round}
use Rattle.net_history.specs.Steps.{network_of, peering}
use Rattle.net_schedule.specs.Asked.{kept_datagram, kept_may_carry, kept_may_join, kept_opens, way_at}
use Rattle.net_schedule.specs.Joined.{HasFewListens, after_carry, after_cut, after_join, after_mail, way_carried, way_joined}
use Rattle.net_schedule.specs.Kept.{kept_arrival, kept_client}
use Rattle.net_schedule.specs.Running.{NetKept, layout_of}
use Rattle.net_schedule.specs.Standing.{Goes, brought_in}
use Rattle.net_schedule.proofs.ArmLemmas.{both_moved, came_round, carried, few_listens, joined, mailed, moved, opened, parted, rebuilt, said, two_by, two_moved, unpaired, unpeered, waits_round}
use Rattle.net_schedule.proofs.FactLemmas.{facts_of, waits_for}
use Rattle.net_schedule.proofs.ThereLemmas.{there_same}
use Rattle.net_schedule.proofs.network.Network.take.Goals.{in-Open, in-Say, in-Round, in-Join+in-Some, in-Join+in-None, in-Cut, in-Carry, in-Cast+in-Some-peering, in-Cast+in-None-peering}
use Rattle.net_schedule.proofs.network.Network.take.Goals as goal

pub run-requires-clause-ready : goal.run-requires-clause-ready
run-requires-clause-ready g c κs within =
    let self = c.args.self.now in
    let sound = c.requires.sound in
    let layout = layout_of self in
    let n = network_of layout sound.steps in
    let facts = facts_of layout sound.steps in
    let there = sym (there_same layout self n facts sound.stands sound.peers Rattle.std.proofs.Common.refl Rattle.std.proofs.Common.refl c.args.event) ∙ c.requires.there in
    let goes = subst (λ servers. Goes (brought_in n) servers self.ways n) (sym (c.as_mut_slice-servers.ensures.value ∙ ap (λ (k : NetKept). k.servers) c.self.view_is)) sound.stands in (
      n,
      brought_in n,
      subst (λ ways. Goes (brought_in n) c.as_mut_slice-servers.result.now ways n) (sym (c.as_mut_slice-ways.ensures.value ∙ ap (λ (k : NetKept). k.ways) c.self.view_is)) goes,
      waits_for layout n facts c.in-Round.server (subst (λ e. Rattle.net_history.specs.Steps.is_there layout n e ≡ Rattle.std.proofs.Common.true) c.in-Round.is there),
    )

pub returns-clause-stands : goal.returns-clause-stands
returns-clause-stands g c = λ steps stands.
    let self = c.args.self.now in
    let servers = c.as_mut_slice-servers.ensures.value ∙ ap (λ (k : NetKept). k.servers) c.self.view_is in
    let ways = c.as_mut_slice-ways.ensures.value ∙ ap (λ (k : NetKept). k.ways) c.self.view_is in
    let new = Rattle.net_schedule.specs.contracts.network.Network.the_view c.match-event.self-inside in
    elim c.match-event.branch [
      | in-Open w ↦ opened self steps stands c.requires.sound.peers c.args.event c.requires.there c.match-event.result new w.in-Open.server w.in-Open.listener w.in-Open.call w.in-Open.is (ap (λ (k : NetKept). k.ways) (ap Rattle.net_schedule.specs.contracts.network.Network.the_view w.self-inside-is) ∙ rebuilt _ c.as_mut_slice-ways.result.now _ c.as_mut_slice-ways.ensures.len ∙ ways)
          (λ opens. moved (changed_at (kept_client w.in-Open.listener (address_of w.in-Open.server) w.in-Open.call) w.in-Open.server) c.as_mut_slice-servers.result.now self.servers w.open.new.servers new.servers c.match-event.result w.open.result w.result-is (ap (λ (k : NetKept). k.servers) (ap Rattle.net_schedule.specs.contracts.network.Network.the_view w.self-inside-is) ∙ rebuilt _ w.open.new.servers _ (w.open.auto.servers ∙ c.as_mut_slice-servers.ensures.len)) servers
          (w.open.ensures (ap (λ xs. kept_opens w.in-Open.listener (slice_get xs w.in-Open.server)) servers ∙ opens)))
      | in-Say w ↦ said self steps stands c.requires.sound.peers c.args.event c.requires.there c.match-event.result new w.in-Say.server w.in-Say.link w.in-Say.line w.in-Say.is (ap (λ (k : NetKept). k.ways) (ap Rattle.net_schedule.specs.contracts.network.Network.the_view w.self-inside-is) ∙ rebuilt _ c.as_mut_slice-ways.result.now _ c.as_mut_slice-ways.ensures.len ∙ ways)
          (moved (changed_at (kept_arrival (event.Bytes w.in-Say.link (ended_line w.in-Say.line))) w.in-Say.server) c.as_mut_slice-servers.result.now self.servers w.arrive_at.new.servers new.servers c.match-event.result w.arrive_at.result w.result-is (ap (λ (k : NetKept). k.servers) (ap Rattle.net_schedule.specs.contracts.network.Network.the_view w.self-inside-is) ∙ rebuilt _ w.arrive_at.new.servers _ (w.arrive_at.auto.servers ∙ c.as_mut_slice-servers.ensures.len)) servers
          (subst (λ bytes. OnOk w.arrive_at.result (w.arrive_at.new.servers ≡ changed_at (kept_arrival (event.Bytes w.in-Say.link bytes)) w.in-Say.server c.as_mut_slice-servers.result.now)) w.ended.ensures w.arrive_at.ensures))
      | in-Round w ↦ came_round self steps stands c.requires.sound.peers c.args.event c.requires.there c.match-event.result new w.in-Round.server w.in-Round.moment w.in-Round.is
          (both_moved (λ xs ys. Goes (brought_in (network_of (layout_of self) steps)) xs ys (with_round w.in-Round.server w.in-Round.moment (network_of (layout_of self) steps))) w.run.new.servers new.servers w.run.new.ways new.ways c.match-event.result w.run.result w.result-is (ap (λ (k : NetKept). k.servers) (ap Rattle.net_schedule.specs.contracts.network.Network.the_view w.self-inside-is) ∙ rebuilt _ w.run.new.servers _ (w.run.auto.servers ∙ c.as_mut_slice-servers.ensures.len)) (ap (λ (k : NetKept). k.ways) (ap Rattle.net_schedule.specs.contracts.network.Network.the_view w.self-inside-is) ∙ rebuilt _ w.run.new.ways _ (w.run.auto.ways ∙ c.as_mut_slice-ways.ensures.len))
          (w.run.ensures (brought_in (network_of (layout_of self) steps)) (network_of (layout_of self) steps)
          (subst (λ xs. Goes (brought_in (network_of (layout_of self) steps)) xs c.as_mut_slice-ways.result.now (network_of (layout_of self) steps)) (sym servers) (subst (λ ys. Goes (brought_in (network_of (layout_of self) steps)) self.servers ys (network_of (layout_of self) steps)) (sym ways) stands))
          (waits_round self steps stands c.requires.sound.peers c.args.event c.requires.there w.in-Round.server w.in-Round.moment w.in-Round.is)))
      | in-Join+in-Some w ↦ joined self steps stands c.requires.sound.peers c.args.event c.requires.there c.match-event.result new w.in-Join.pair w.in-Some.joining w.in-Join.is
          (ap (λ xs. slice_get xs w.in-Join.pair) (sym (w.as_slice.ensures.value ∙ ap (λ (k : NetKept). k.pairs) c.self.view_is)) ∙ sym w.pair_at.ensures ∙ w.in-Some.is)
          (λ may. two_moved (after_join w.in-Some.joining) (λ xs ys. changed_at (way_joined w.in-Some.joining xs) w.in-Join.pair ys) c.as_mut_slice-servers.result.now self.servers w.join.new.servers new.servers c.as_mut_slice-ways.result.now self.ways w.join.new.ways new.ways c.match-event.result w.join.result w.result-is (ap (λ (k : NetKept). k.servers) (ap Rattle.net_schedule.specs.contracts.network.Network.the_view w.self-inside-is) ∙ rebuilt _ w.join.new.servers _ (w.join.auto.servers ∙ c.as_mut_slice-servers.ensures.len)) (ap (λ (k : NetKept). k.ways) (ap Rattle.net_schedule.specs.contracts.network.Network.the_view w.self-inside-is) ∙ rebuilt _ w.join.new.ways _ (w.join.auto.ways ∙ c.as_mut_slice-ways.ensures.len)) servers ways
          (w.join.ensures.servers (ap (λ xs. kept_may_join xs (Rattle.std.proofs.Common.Some w.in-Some.joining)) servers ∙ may)) (w.join.ensures.ways (ap (λ xs. kept_may_join xs (Rattle.std.proofs.Common.Some w.in-Some.joining)) servers ∙ may)))
      | in-Join+in-None w ↦ unpaired self steps stands c.requires.sound.peers c.args.event c.requires.there c.match-event.result new w.in-Join.pair w.in-Join.is (ap (λ xs. slice_get xs w.in-Join.pair) (sym (w.as_slice.ensures.value ∙ ap (λ (k : NetKept). k.pairs) c.self.view_is)) ∙ sym w.pair_at.ensures ∙ w.in-None.is)
      | in-Cut w ↦ parted self steps stands c.requires.sound.peers c.args.event c.requires.there c.match-event.result new w.in-Cut.pair w.in-Cut.is
          (two_by (λ ys. after_cut (way_at w.in-Cut.pair ys)) (changed_at (λ way. Rattle.std.proofs.Common.None) w.in-Cut.pair) c.as_mut_slice-servers.result.now self.servers w.cut.new.servers new.servers c.as_mut_slice-ways.result.now self.ways w.cut.new.ways new.ways c.match-event.result w.cut.result w.result-is (ap (λ (k : NetKept). k.servers) (ap Rattle.net_schedule.specs.contracts.network.Network.the_view w.self-inside-is) ∙ rebuilt _ w.cut.new.servers _ (w.cut.auto.servers ∙ c.as_mut_slice-servers.ensures.len)) (ap (λ (k : NetKept). k.ways) (ap Rattle.net_schedule.specs.contracts.network.Network.the_view w.self-inside-is) ∙ rebuilt _ w.cut.new.ways _ (w.cut.auto.ways ∙ c.as_mut_slice-ways.ensures.len)) servers ways
          w.cut.ensures.servers w.cut.ensures.ways)
      | in-Carry w ↦ carried self steps stands c.requires.sound.peers c.args.event c.requires.there c.match-event.result new w.in-Carry.pair w.in-Carry.up w.in-Carry.n w.in-Carry.is
          (λ may. two_by (λ ys. after_carry w.in-Carry.up w.in-Carry.n (way_at w.in-Carry.pair ys)) (changed_at (way_carried w.in-Carry.up w.in-Carry.n) w.in-Carry.pair) c.as_mut_slice-servers.result.now self.servers w.carry.new.servers new.servers c.as_mut_slice-ways.result.now self.ways w.carry.new.ways new.ways c.match-event.result w.carry.result w.result-is (ap (λ (k : NetKept). k.servers) (ap Rattle.net_schedule.specs.contracts.network.Network.the_view w.self-inside-is) ∙ rebuilt _ w.carry.new.servers _ (w.carry.auto.servers ∙ c.as_mut_slice-servers.ensures.len)) (ap (λ (k : NetKept). k.ways) (ap Rattle.net_schedule.specs.contracts.network.Network.the_view w.self-inside-is) ∙ rebuilt _ w.carry.new.ways _ (w.carry.auto.ways ∙ c.as_mut_slice-ways.ensures.len)) servers ways
          (w.carry.ensures.servers (ap (λ ys. kept_may_carry w.in-Carry.up w.in-Carry.n (way_at w.in-Carry.pair ys)) ways ∙ may)) w.carry.ensures.ways)
      | in-Cast+in-Some-peering w ↦ mailed self steps stands c.requires.sound.peers c.args.event c.requires.there c.match-event.result new w.in-Cast.from w.in-Cast.to w.in-Cast.k (w.in-Some-peering.field-0-0, w.in-Some-peering.peer) w.in-Cast.is (ap (peering w.in-Cast.from w.in-Cast.to) (sym (w.as_slice-in-Cast.ensures.value ∙ ap (λ (k : NetKept). k.peers) c.self.view_is)) ∙ sym w.peering.ensures ∙ w.in-Some-peering.is) (ap (λ (k : NetKept). k.ways) (ap Rattle.net_schedule.specs.contracts.network.Network.the_view w.self-inside-is) ∙ rebuilt _ c.as_mut_slice-ways.result.now _ c.as_mut_slice-ways.ensures.len ∙ ways)
          (moved (λ xs. after_mail w.in-Cast.to w.in-Some-peering.peer (option_map ended_line (kept_datagram w.in-Cast.k (slice_get xs w.in-Cast.from))) xs) c.as_mut_slice-servers.result.now self.servers w.mail.new.servers new.servers c.match-event.result w.mail.result w.result-is (ap (λ (k : NetKept). k.servers) (ap Rattle.net_schedule.specs.contracts.network.Network.the_view w.self-inside-is) ∙ rebuilt _ w.mail.new.servers _ (w.mail.auto.servers ∙ c.as_mut_slice-servers.ensures.len)) servers
          (w.mail.ensures (subst (Each HasFewListens) (sym servers) (few_listens self steps stands c.requires.sound.few))))
      | in-Cast+in-None-peering w ↦ unpeered self steps stands c.requires.sound.peers c.args.event c.requires.there c.match-event.result new w.in-Cast.from w.in-Cast.to w.in-Cast.k w.in-Cast.is (ap (peering w.in-Cast.from w.in-Cast.to) (sym (w.as_slice-in-Cast.ensures.value ∙ ap (λ (k : NetKept). k.peers) c.self.view_is)) ∙ sym w.peering.ensures ∙ w.in-None-peering.is)
    ]
