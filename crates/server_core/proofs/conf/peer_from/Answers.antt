use Rattle.aprs_base.specs.Bytes.{is_station}
use Rattle.aprs_conf.specs.declared.types.PeerSpec.{PeerSpec}
use Rattle.server_core.proofs.MemberLemmas.{all_at}
use Rattle.server_core.proofs.conf.peer_from.Goals as goal

pub returns-then-eq-clause-station : goal.returns-then-eq-clause-station
returns-then-eq-clause-station c = λ all.
    all_at (λ (peer : PeerSpec). is_station peer.call) c.args.peers.now c.loop-peer.peer-index c.peer-item.result c.loop-peer-test.true c.peer-item.is all
