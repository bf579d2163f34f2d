use Rattle.std.proofs.Common.{◌≡◌, map, take}
use Rattle.std.specs.List.{filter_map}
use Rattle.net_script.specs.Layouts.{peer_in, peer_of}
use Rattle.net_script.proofs.types.Script.peers_of.Given as goal

-- the peers of the pairs so far
abbrev pub invariant-loop-pair : goal.invariant-loop-pair
invariant-loop-pair l = map peer_of l.peers.items ≡ filter_map (peer_in l.self l.server) (take l.pair-index l.pair-items)
