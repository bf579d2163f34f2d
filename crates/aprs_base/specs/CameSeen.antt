-- An event that came, as it is kept: what it is, and the bytes that it brings.
use Rattle.std.specs.Prelude.{◌≡◌, ℕ, List, []}
use Rattle.std.proofs.Common.{refl}
use Rattle.aprs_base.specs.declared.events.Event.{Event}
use Rattle.aprs_base.specs.declared.events.Event.TheVariants as event
use Rattle.aprs_base.specs.declared.events.Head.{Head}
use Rattle.aprs_base.specs.declared.events.Head.TheVariants as head

-- the event of a head and bytes
abbrev pub event_of : Head → List ℕ → Event
event_of (head.Tick moment) bytes = event.Tick moment
event_of (head.Opened listener link from) bytes = event.Opened listener link from
event_of (head.Joined uplink link at) bytes = event.Joined uplink link at
event_of (head.Unjoined uplink) bytes = event.Unjoined uplink
event_of (head.Bytes link) bytes = event.Bytes link bytes
event_of (head.Ended link) bytes = event.Ended link
event_of (head.Room link) bytes = event.Room link
event_of (head.Datagram listener from) bytes = event.Datagram listener from bytes
event_of head.Stop bytes = event.Stop

-- the head of an event
abbrev pub head_of : Event → Head
head_of (event.Tick moment) = head.Tick moment
head_of (event.Opened listener link from) = head.Opened listener link from
head_of (event.Joined uplink link at) = head.Joined uplink link at
head_of (event.Unjoined uplink) = head.Unjoined uplink
head_of (event.Bytes link bytes) = head.Bytes link
head_of (event.Ended link) = head.Ended link
head_of (event.Room link) = head.Room link
head_of (event.Datagram listener from bytes) = head.Datagram listener from
head_of event.Stop = head.Stop

-- the bytes that an event brings
abbrev pub bytes_of : Event → List ℕ
bytes_of (event.Bytes link bytes) = bytes
bytes_of (event.Datagram listener from bytes) = bytes
bytes_of (event.Tick moment) = []
bytes_of (event.Opened listener link from) = []
bytes_of (event.Joined uplink link at) = []
bytes_of (event.Unjoined uplink) = []
bytes_of (event.Ended link) = []
bytes_of (event.Room link) = []
bytes_of event.Stop = []

-- the bytes are those of the event that they make with this head
abbrev pub HasBytesOf : Head → List ℕ → Type 0
HasBytesOf h bytes = bytes_of (event_of h bytes) ≡ bytes

-- an event keeps its head
pub head_is_back : (h : Head) (bytes : List ℕ) → head_of (event_of h bytes) ≡ h
head_is_back (head.Tick moment) bytes = refl
head_is_back (head.Opened listener link from) bytes = refl
head_is_back (head.Joined uplink link at) bytes = refl
head_is_back (head.Unjoined uplink) bytes = refl
head_is_back (head.Bytes link) bytes = refl
head_is_back (head.Ended link) bytes = refl
head_is_back (head.Room link) bytes = refl
head_is_back (head.Datagram listener from) bytes = refl
head_is_back head.Stop bytes = refl
