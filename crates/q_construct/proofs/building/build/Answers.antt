use Rattle.std.proofs.Common.{ap, ◌∙◌}
use Rattle.q_construct.specs.Rule.{name_of}
use Rattle.q_construct.specs.declared.origins.Origin.TheVariants.{Uplink, Peer}
use Rattle.q_construct.proofs.RowLemmas.{uplink_as_peer, peer_as_named, of_origin}
use Rattle.q_construct.proofs.building.build.Goals as goal

pub returns-in-Uplink-clause-row : goal.returns-in-Uplink-clause-row
returns-in-Uplink-clause-row c =
    of_origin c.args.source.now c.args.server.now c.args.given.now c.build_passed.new.built c.args.origin.now (Uplink c.in-Uplink.field-0) c.in-Uplink.is
    (uplink_as_peer c.args.source.now c.in-Uplink.field-0 c.args.server.now c.args.given.now c.args.name.now c.build_passed.new.built
    (c.requires.name ∙ ap name_of c.in-Uplink.is) (c.build_passed.ensures.row c.args.source.now c.args.server.now))

pub returns-in-Peer-clause-row : goal.returns-in-Peer-clause-row
returns-in-Peer-clause-row c =
    of_origin c.args.source.now c.args.server.now c.args.given.now c.build_passed-in-Peer.new.built c.args.origin.now (Peer c.in-Peer.field-0) c.in-Peer.is
    (peer_as_named c.args.source.now c.in-Peer.field-0 c.args.server.now c.args.given.now c.args.name.now c.build_passed-in-Peer.new.built
    (c.requires.name ∙ ap name_of c.in-Peer.is) (c.build_passed-in-Peer.ensures.row c.args.source.now c.args.server.now))
