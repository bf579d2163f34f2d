use Rattle.std.proofs.Common.{◌≡◌, drop, map}
use Rattle.aprs_history.specs.Setting.{peer_from}
use Rattle.server_core.specs.Meaning.{peer_of}
use Rattle.server_core.proofs.conf.peer_from.Given as goal

-- the number is that of the peer that is looked at, and the rest of the search is that of the whole
abbrev pub invariant-loop-peer : goal.invariant-loop-peer
invariant-loop-peer l =
    (l.number ≡ l.peer-index) × (peer_from l.number (map peer_of (drop l.peer-index l.peers)) l.at ≡ peer_from 0 (map peer_of l.peers) l.at)
