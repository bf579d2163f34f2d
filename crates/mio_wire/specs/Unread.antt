-- Bytes that were read and are not handed up.
use Rattle.std.specs.Prelude.{◌≡◌, ℕ, ◌<◌, ◌==◌, ⊤, Contains, List, [], ◌∷◌, length, take, drop, Option, Some, None, Result, Ok, Err, if◌then◌else◌}
use Rattle.aprs_base.specs.declared.events.Event.{Event}
use Rattle.aprs_base.specs.declared.events.Event.TheVariants as event
use Rattle.aprs_base.specs.declared.events.Sent.{Sent}
use Rattle.aprs_base.specs.declared.events.Sent.TheVariants as sent

-- bytes that a link brought
pub record Brought : Type 0 where
  pub link : ℕ
  pub left : List ℕ

abbrev pub nothing : Brought
nothing = record { link = 0; left = [] }

-- without the bytes of a link
abbrev pub forgotten : ℕ → Brought → Brought
forgotten link brought = record brought { left = if brought.link == link then [] else brought.left }

-- bytes that are left after an offer: without those of a link that is gone
abbrev pub unread_after : {E : Type 0} → Result Sent E → ℕ → Brought → Brought
unread_after (Ok (sent.Took count)) link brought = brought
unread_after (Ok sent.Gone) link brought = forgotten link brought
unread_after (Err e) link brought = brought

-- bytes that are left are those of a link that is there
unfoldable pub IsHeld : Brought → List ℕ → Type 0
IsHeld brought ns = 0 < length brought.left → Contains ns brought.link

-- where bytes are left, the event is that of the next of them
abbrev pub IsNextOf : (link : ℕ) (left : List ℕ) → Event → Type 0
IsNextOf link [] e = ⊤
IsNextOf link (b ∷ bs) e = e ≡ event.Bytes link (take 1460 (b ∷ bs))

-- a step hands up the next of the bytes that are left, and passes only where none is
unfoldable pub HandsUp : Brought → Option Event → Type 0
HandsUp before None = length before.left ≡ 0
HandsUp before (Some e) = IsNextOf before.link before.left e

-- of bytes that were left, an event of bytes takes the first, and any other none
unfoldable pub Leaves : (before now : Brought) → (left : List ℕ) → Event → Type 0
Leaves before now [] e = ⊤
Leaves before now (b ∷ bs) (event.Bytes link bytes) = now ≡ record before { left = drop 1460 (b ∷ bs) }
Leaves before now (b ∷ bs) (event.Tick moment) = now ≡ before
Leaves before now (b ∷ bs) (event.Opened listener link from) = now ≡ before
Leaves before now (b ∷ bs) (event.Joined uplink link at) = now ≡ before
Leaves before now (b ∷ bs) (event.Unjoined uplink) = now ≡ before
Leaves before now (b ∷ bs) (event.Ended link) = now ≡ before
Leaves before now (b ∷ bs) (event.Room link) = now ≡ before
Leaves before now (b ∷ bs) (event.Datagram listener from bytes) = now ≡ before
Leaves before now (b ∷ bs) event.Stop = now ≡ before

-- a step takes none of them where it hands nothing up
unfoldable pub LeavesStep : (before now : Brought) → Option Event → Type 0
LeavesStep before now None = 0 < length before.left → now ≡ before
LeavesStep before now (Some e) = Leaves before now before.left e
