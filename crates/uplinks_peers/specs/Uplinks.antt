-- The uplinks of a server: one at most is dialled or joined at a time, and they are dialled in turn.
use Rattle.std.specs.Prelude.{ℕ, ◌+◌, ◌-◌, ◌==◌, ◌&&◌, ◌%◌, Bool, true, false, nat_lt, nat_le, List, [], ◌∷◌, Option, Some, None, is_none, if◌then◌else◌}
use Rattle.std.specs.Option.{option_map}
use Rattle.uplinks_peers.specs.declared.uplinks.UpActs.{UpActs}
use Rattle.uplinks_peers.specs.declared.uplinks.UpEvent.{UpEvent}
use Rattle.uplinks_peers.specs.declared.uplinks.UpEvent.TheVariants as event

-- the joined uplink, its link, and the moment of the link's last bytes, or else of its joining
pub record JoinedSeen : Type 0 where
  pub uplink : ℕ
  pub link : ℕ
  pub last : ℕ

-- how many uplinks there are, after how many seconds without bytes the joined one is silent, the next in order,
-- the one being dialled, the joined one, and the moment at which the last try ended
pub record UplinksSeen : Type 0 where
  pub count : ℕ
  pub timeout : ℕ
  pub next : ℕ
  pub dialled : Option ℕ
  pub joined : Option JoinedSeen
  pub tried : Option ℕ

abbrev pub untried : (count timeout : ℕ) → UplinksSeen
untried count timeout = record { count = count; timeout = timeout; next = 0; dialled = None; joined = None; tried = None }

-- ---- what is asked of them

abbrev pub is_dialled : ℕ → Option ℕ → Bool
is_dialled uplink (Some dialled) = uplink == dialled
is_dialled uplink None = false

abbrev pub link_of : JoinedSeen → ℕ
link_of joined = joined.link

abbrev pub is_joined_by : ℕ → Option JoinedSeen → Bool
is_joined_by link (Some joined) = link == joined.link
is_joined_by link None = false

abbrev pub is_silent : (timeout now : ℕ) → Option JoinedSeen → Bool
is_silent timeout now (Some joined) = nat_le timeout (now - joined.last)
is_silent timeout now None = false

-- the seconds between the end of a try and the next dial
abbrev pub pause : ℕ
pause = 10

abbrev pub is_rested : (now : ℕ) → Option ℕ → Bool
is_rested now (Some tried) = nat_le pause (now - tried)
is_rested now None = true

abbrev pub is_due : (now : ℕ) → UplinksSeen → Bool
is_due now uplinks = nat_lt 0 uplinks.count && (is_none uplinks.dialled && (is_none uplinks.joined && is_rested now uplinks.tried))

-- ---- what becomes of them

-- the one after it, the first after the last
abbrev pub following : (count uplink : ℕ) → ℕ
following count uplink = (uplink + 1) % count

abbrev pub dialling : UplinksSeen → UplinksSeen
dialling uplinks = record uplinks { next = following uplinks.count uplinks.next; dialled = Some uplinks.next; joined = None }

abbrev pub joined_as : (uplink link now : ℕ) → UplinksSeen → UplinksSeen
joined_as uplink link now uplinks = record uplinks { dialled = None; joined = Some (record { uplink = uplink; link = link; last = now }) }

abbrev pub with_last : (moment : ℕ) → JoinedSeen → JoinedSeen
with_last moment joined = record joined { last = moment }

abbrev pub heard_at : (now : ℕ) → UplinksSeen → UplinksSeen
heard_at now uplinks = record uplinks { joined = option_map (with_last now) uplinks.joined }

abbrev pub ended_at : (now : ℕ) → UplinksSeen → UplinksSeen
ended_at now uplinks = record uplinks { dialled = None; joined = None; tried = Some now }

-- ---- what is to be done

abbrev pub no_acts : UpActs
no_acts = record { dial = None; login = false; close = None }

abbrev pub dial_of : (uplink : ℕ) → UpActs
dial_of uplink = record no_acts { dial = Some uplink }

abbrev pub login_act : UpActs
login_act = record no_acts { login = true }

abbrev pub close_of : Option ℕ → UpActs
close_of link = record no_acts { close = link }

-- ---- the table of steps

-- a row: when it counts, what the uplinks are then, and what is to be done
pub record Row : Type 0 where
  pub counts : Bool
  pub uplinks : UplinksSeen
  pub acts : UpActs

abbrev pub row : Bool → UplinksSeen → UpActs → Row
row counts uplinks acts = record { counts = counts; uplinks = uplinks; acts = acts }

abbrev pub rows : UpEvent → (now : ℕ) → UplinksSeen → List Row
rows event.Tick now seen = row (is_silent seen.timeout now seen.joined) (ended_at now seen) (close_of (option_map link_of seen.joined)) ∷ row (is_due now seen) (dialling seen) (dial_of seen.next) ∷ []
rows (event.Joined uplink link) now seen = row (is_dialled uplink seen.dialled) (joined_as uplink link now seen) login_act ∷ row true seen (close_of (Some link)) ∷ []
rows (event.Unjoined uplink) now seen = row (is_dialled uplink seen.dialled) (ended_at now seen) no_acts ∷ []
rows (event.Heard link) now seen = row (is_joined_by link seen.joined) (heard_at now seen) no_acts ∷ []
rows (event.Ended link) now seen = row (is_joined_by link seen.joined) (ended_at now seen) no_acts ∷ []

-- the first row that counts; where none does, nothing changes and nothing is done
abbrev pub first_row : UplinksSeen → List Row → Row
first_row seen [] = row true seen no_acts
first_row seen (first ∷ others) = if first.counts then first else first_row seen others

abbrev pub step_of : UpEvent → (now : ℕ) → UplinksSeen → Row
step_of happened now seen = first_row seen (rows happened now seen)

abbrev pub uplinks_after : UpEvent → (now : ℕ) → UplinksSeen → UplinksSeen
uplinks_after happened now seen = (step_of happened now seen).uplinks

abbrev pub acts_at : UpEvent → (now : ℕ) → UplinksSeen → UpActs
acts_at happened now seen = (step_of happened now seen).acts
