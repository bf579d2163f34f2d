-- How far the last try is, as options.
use Rattle.std.specs.Prelude.{ℕ, Option, Some, None}
use Rattle.uplinks_peers.specs.declared.uplinks.Attempt.{Attempt}
use Rattle.uplinks_peers.specs.declared.uplinks.Attempt.TheVariants as attempt
use Rattle.uplinks_peers.specs.Uplinks.{JoinedSeen}

abbrev pub dialled_of : Attempt → Option ℕ
dialled_of attempt.Idle = None
dialled_of (attempt.Dialled uplink) = Some uplink
dialled_of (attempt.Joined uplink link last) = None

abbrev pub joined_of : Attempt → Option JoinedSeen
joined_of attempt.Idle = None
joined_of (attempt.Dialled uplink) = None
joined_of (attempt.Joined uplink link last) = Some (record { uplink = uplink; link = link; last = last })
