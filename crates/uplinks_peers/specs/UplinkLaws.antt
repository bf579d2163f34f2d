-- What the table of the uplinks' steps comes to.
use Rattle.std.specs.Prelude.{ℕ, ◌≡◌, ◌≢◌, ◌+◌, ◌-◌, ◌<◌, ◌≤◌, ◌%◌, Some, None, IfSome}
use Rattle.uplinks_peers.specs.declared.uplinks.UpEvent.{UpEvent}
use Rattle.uplinks_peers.specs.declared.uplinks.UpEvent.TheVariants as event
use Rattle.uplinks_peers.specs.Uplinks.{JoinedSeen, UplinksSeen}

-- the next uplink is one of them, and none is dialled while one is joined
pub record IsOrderly (seen : UplinksSeen) : Type 0 where
  pub within : 0 < seen.count → seen.next < seen.count
  pub alone : IfSome seen.joined (λ joined. seen.dialled ≡ None)

-- a dial is due: at a tick, where none is dialled or joined, ten seconds or more after the last try's end
pub record IsDialDue (happened : UpEvent) (now : ℕ) (seen : UplinksSeen) : Type 0 where
  pub tick : happened ≡ event.Tick
  pub any : 0 < seen.count
  pub undialled : seen.dialled ≡ None
  pub unjoined : seen.joined ≡ None
  pub rested : IfSome seen.tried (λ tried. 10 ≤ now - tried)

-- the one whose turn it was is dialled, and then it is the turn of the one after it, the first after the last
pub record IsInTurn (uplink : ℕ) (old new : UplinksSeen) : Type 0 where
  pub turn : uplink ≡ old.next
  pub dialled : new.dialled ≡ Some uplink
  pub next : new.next ≡ (uplink + 1) % old.count

-- the uplink that joined is the one that is dialled
abbrev pub IsAwaited : UpEvent → UplinksSeen → Type 0
IsAwaited (event.Joined uplink link) seen = seen.dialled ≡ Some uplink
IsAwaited happened seen = ⊥

-- the link has brought nothing for so long that it is silent
pub record IsSilent (link now : ℕ) (seen : UplinksSeen) : Type 0 where
  pub joined : JoinedSeen
  pub is : seen.joined ≡ Some joined
  pub its : joined.link ≡ link
  pub silent : seen.timeout ≤ now - joined.last

-- at a tick the silent link is closed, and otherwise the link of an uplink that joined without being dialled
abbrev pub IsToClose : ℕ → UpEvent → ℕ → UplinksSeen → Type 0
IsToClose link event.Tick now seen = IsSilent link now seen
IsToClose link (event.Joined uplink joined) now seen = (joined ≡ link) × (seen.dialled ≢ Some uplink)
IsToClose link happened now seen = ⊥
