-- What the sockets hold.
use Rattle.std.specs.Prelude.{◌≡◌, ◌≢◌, ℕ, ⊤, ◌==◌, ◌&&◌, nat_le, nat_lt, Bool, true, false, if◌then◌else◌, List, [], ◌∷◌, ◌++◌, length, map, Contains, slice_get, Option, Some, None}
use Rattle.std.specs.List.{list_any}
use Rattle.aprs_base.specs.declared.events.Event.{Event}
use Rattle.aprs_base.specs.declared.events.Event.TheVariants as event
use Rattle.aprs_base.specs.declared.packets.PortKind.{PortKind}
use Rattle.aprs_base.specs.declared.packets.PortKind.TheVariants as kind
use Rattle.mio_wire.specs.declared.mail.Caster.{Caster}
use Rattle.mio_wire.specs.declared.sockets.Ear.{Ear}
use Rattle.mio_wire.specs.declared.sockets.Sockets.{Sockets}
use Rattle.mio_wire.specs.declared.turns.Ready.{Ready}
use Rattle.mio_wire.specs.Mail.{greater}
use Rattle.mio_wire.specs.Sources.{reads_link, with_waiting}
use Rattle.mio_wire.specs.Unread.{Brought, nothing}

-- a link has more than one read took, and is to be read on in the next turn
unfoldable pub reads_on : Option Sockets → Bool
reads_on None = false
reads_on (Some sockets) = list_any reads_link sockets.turns.later.items

-- links that end are left, of which as many had their turn as have it between two askings, and all that was read is handed up
unfoldable pub is_to_ask : Sockets → Bool
is_to_ask sockets = (length sockets.inbox.left == 0) && (nat_le sockets.turns.ask_at sockets.turns.at && nat_lt sockets.turns.at (length sockets.turns.ready.items))

-- the numbers of the listeners for links and for datagrams, in the order in which they listen, and where datagrams are cast from:
-- those for peers from a peer group's listener, those of downlinks from any listener for datagrams
pub record Listening : Type 0 where
  pub links : List ℕ
  pub mail : List ℕ
  pub caster : Option Caster
  pub downlinks : Option Caster

abbrev pub listening_of : Sockets → Listening
listening_of sockets = record { links = map (λ ear. ear.number) sockets.ears.items; mail = map (λ mailbox. mailbox.number) sockets.mailboxes.items; caster = sockets.caster; downlinks = sockets.downlinks }

-- what sockets hold: the bytes that were read and are not handed up, and who listens
pub record Holding : Type 0 where
  pub unread : Brought
  pub heard : Listening

abbrev pub holding_of : Sockets → Holding
holding_of sockets = record { unread = sockets.inbox; heard = listening_of sockets }

unfoldable pub holding : Option Sockets → Holding
holding None = record { unread = nothing; heard = record { links = []; mail = []; caster = None; downlinks = None } }
holding (Some sockets) = holding_of sockets

abbrev pub unread : Option Sockets → Brought
unread sockets = (holding sockets).unread

abbrev pub listening : Option Sockets → Listening
listening sockets = (holding sockets).heard

-- after one more listener: it is the last of its kind's, and casts where its number is the greatest
abbrev pub listening_after : PortKind → (number : ℕ) → Listening → Listening
listening_after kind.Full number before = record before { links = before.links ++ number ∷ [] }
listening_after kind.Igate number before = record before { links = before.links ++ number ∷ [] }
listening_after kind.Only number before = record before { links = before.links ++ number ∷ [] }
listening_after kind.Dupe number before = record before { links = before.links ++ number ∷ [] }
listening_after kind.Submit number before = record before {
  mail = before.mail ++ number ∷ [];
  downlinks = greater before.downlinks (record { number = number; place = length before.mail });
}
listening_after kind.Core number before = record {
  links = before.links;
  mail = before.mail ++ number ∷ [];
  caster = greater before.caster (record { number = number; place = length before.mail });
  downlinks = greater before.downlinks (record { number = number; place = length before.mail });
}

-- where the datagram of a cast goes from: numbers of peers are below 256, and from there on they are those of downlinks
abbrev pub casts_from : ℕ → Listening → Option Caster
casts_from peer heard = if nat_lt peer 256 then heard.caster else heard.downlinks

-- nothing but a new link, which names the listener at that place
unfoldable pub OpensAt : (listeners : List ℕ) (place : ℕ) → Option Event → Type 0
OpensAt listeners place None = ⊤
OpensAt listeners place (Some (event.Opened listener link from)) = slice_get listeners place ≡ Some listener
OpensAt listeners place (Some _) = ⊥

-- nothing but a datagram, which names the listener at that place
unfoldable pub BringsAt : (listeners : List ℕ) (place : ℕ) → Option Event → Type 0
BringsAt listeners place None = ⊤
BringsAt listeners place (Some (event.Datagram listener from bytes)) = slice_get listeners place ≡ Some listener
BringsAt listeners place (Some _) = ⊥

-- a new link names a listener for links, and a datagram one for datagrams
abbrev pub NamesListener : Listening → Event → Type 0
NamesListener heard (event.Opened listener link from) = Contains heard.links listener
NamesListener heard (event.Datagram listener from bytes) = Contains heard.mail listener
NamesListener heard _ = ⊤

unfoldable pub NamesStep : Listening → Option Event → Type 0
NamesStep heard None = ⊤
NamesStep heard (Some e) = NamesListener heard e

-- what waits for the next turn with each of the listeners that are deaf
abbrev pub with_deaf : List Ear → List Ready → List Ready
with_deaf [] later = later
with_deaf (ear ∷ ears) later = with_deaf ears (if ear.deaf then with_waiting ear.token later else later)

-- deaf listeners wait once they are to be tried again
abbrev pub woken : (retry : Bool) → List Ear → List Ready → List Ready
woken true ears later = with_deaf ears later
woken false ears later = later

-- deaf listeners are to be tried again, where there are sockets
abbrev pub Retries : Option Sockets → Type 0
Retries None = ⊤
Retries (Some sockets) = sockets.retry ≡ true

-- all that was read and all that the last poll brought is handed up or looked at
unfoldable pub IsServed : Option Sockets → Type 0
IsServed None = ⊤
IsServed (Some sockets) = (length sockets.inbox.left ≡ 0) × (slice_get sockets.turns.ready.items sockets.turns.at ≡ None)

-- with a tick of another second than the last one's, deaf listeners are to be tried again; but for the first, it comes where all that came is served
unfoldable pub MovesAt : (last : Option ℕ) → Option Sockets → Event → Type 0
MovesAt last sockets (event.Tick moment) = last ≢ Some moment → Retries sockets × (last ≢ None → IsServed sockets)
MovesAt last sockets _ = ⊤
