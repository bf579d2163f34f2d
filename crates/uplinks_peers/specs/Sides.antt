-- Who gets what came from whom.
use Rattle.std.specs.Prelude.{Bool, true, false}
use Rattle.uplinks_peers.specs.declared.sides.Side.{Side}
use Rattle.uplinks_peers.specs.declared.sides.Side.TheVariants as side

-- what came from a client goes everywhere, and anything goes to clients
abbrev pub is_passed_on : Side → Side → Bool
is_passed_on side.Client to = true
is_passed_on side.Uplink side.Client = true
is_passed_on side.Uplink side.Uplink = false
is_passed_on side.Uplink side.Peer = false
is_passed_on side.Peer side.Client = true
is_passed_on side.Peer side.Uplink = false
is_passed_on side.Peer side.Peer = false
