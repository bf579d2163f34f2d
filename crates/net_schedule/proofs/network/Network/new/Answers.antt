use Rattle.std.proofs.Common.{sym, ap, ◌∙◌, subst, [], false, map}
use Rattle.net_schedule.specs.Asked.{HavePeers}
use Rattle.net_schedule.specs.Joined.{no_way}
use Rattle.net_schedule.proofs.StandLemmas.{layout_is, new_few, new_stands}
use Rattle.net_schedule.proofs.network.Network.new.Goals as goal

pub invariant_of-result : goal.invariant_of-result
invariant_of-result c = λ going.
    let ways = c.in_ok-ways.ensures ∙ ap (map no_way) c.as_slice.ensures.value in
    record {
      steps = [];
      stands = new_stands (record { servers = c.in_ok-servers_of.field-0.items; pairs = c.args.pairs.items; peers = c.args.peers.items; ways = c.in_ok-ways.ways.items; spent = false }) c.args.confs.items c.in_ok-servers_of.ensures ways;
      few = new_few (record { servers = c.in_ok-servers_of.field-0.items; pairs = c.args.pairs.items; peers = c.args.peers.items; ways = c.in_ok-ways.ways.items; spent = false }) c.args.confs.items c.requires.confs c.in_ok-servers_of.ensures.1;
      peers = subst HavePeers (sym (layout_is _ _ c.args.pairs.items c.args.peers.items c.in_ok-servers_of.ensures.1)) c.requires.peers;
    }

pub returns-clause-stands : goal.returns-clause-stands
returns-clause-stands c = new_stands (record { servers = c.in_ok-servers_of.field-0.items; pairs = c.args.pairs.items; peers = c.args.peers.items; ways = c.in_ok-ways.ways.items; spent = false }) c.args.confs.items c.in_ok-servers_of.ensures (c.in_ok-ways.ensures ∙ ap (map no_way) c.as_slice.ensures.value)
