-- A front of a wire: its port, the moment, and its pool; what an event that comes makes of it, and which event is handed up.
use Rattle.std.specs.Prelude.{◌≡◌, ℕ, ◌==◌, Bool, false, nat_le, min, max, if◌then◌else◌, List, [], length, take, drop, Option, Some, None}
use Rattle.std.specs.List.{find}
use Rattle.aprs_base.specs.declared.events.Event.{Event}
use Rattle.aprs_base.specs.declared.events.Event.TheVariants as event
use Rattle.aprs_base.specs.declared.packets.ListenSpec.{ListenSpec}
use Rattle.aprs_base.specs.declared.packets.PortKind.TheVariants as kind
use Rattle.aprs_base.specs.declared.texts.Addr.{Addr}
use Rattle.http_submit.specs.Pools.{PoolSeen, WaitingSeen, added, heard, is_link, most_bytes, opened, settled, ticked, without}
use Rattle.http_submit.specs.Requests.{IsPost}
use Rattle.http_submit.specs.declared.requests.Post.{Post}
use Rattle.http_submit.specs.declared.requests.Post.TheVariants.{Whole, More, Refused}

pub record FrontSeen : Type 0 where
  -- the number of the listener whose links are those of the front
  pub at : Option ℕ
  pub moment : ℕ
  pub pool : PoolSeen

-- a front as it is made
abbrev pub fresh_front : Option ℕ → FrontSeen
fresh_front at = record { at = at; moment = 0; pool = record { waiting = []; owed = [] } }

-- nothing is owed any more
abbrev pub paid_front : FrontSeen → FrontSeen
paid_front front = record front { pool = record front.pool { owed = [] } }

abbrev pub is_at : Option ℕ → ℕ → Bool
is_at None n = false
is_at (Some u) n = n == u

-- the wire is asked for streams at the front's port
abbrev pub listened_as : Option ℕ → ℕ → ListenSpec → ListenSpec
listened_as at n spec = if is_at at n then record spec { kind = kind.Full } else spec

-- the greatest moment, in seconds: the last second of the year 9999
abbrev pub last_moment : ℕ
last_moment = 253402300799

-- a tick comes
abbrev pub ticked_to : ℕ → FrontSeen → FrontSeen
ticked_to moment front = let now = max (min moment last_moment) front.moment in record front { moment = now; pool = ticked now front.pool }

-- what the bytes of a link so far come to
abbrev pub judged : ℕ → (bytes so_far : List ℕ) → Post → PoolSeen → PoolSeen
judged link bytes so_far (Whole start len known) pool = settled link (if known then 202 else 403) pool
judged link bytes so_far (Refused status) pool = settled link status pool
judged link bytes so_far More pool = if nat_le most_bytes (length so_far) then settled link 413 pool else added link bytes pool

-- a request that is whole is handed up as a datagram with its body
abbrev pub handed_up : ℕ → Addr → (so_far : List ℕ) → Event → Post → Event
handed_up u from so_far e (Whole start len known) = event.Datagram u from (take len (drop start so_far))
handed_up u from so_far e post = e

-- bytes come on a link that waits, or on another one, which is no business of the front
abbrev pub Hears : (u link : ℕ) → List ℕ → Option WaitingSeen → FrontSeen → FrontSeen → Event → Type 0
Hears u link bytes None before after up = (after ≡ before) × (up ≡ event.Bytes link bytes)
Hears u link bytes (Some waiting) before after up =
    (post : Post) × IsPost (heard waiting bytes) post
    × (after ≡ record before { pool = judged link bytes (heard waiting bytes) post before.pool })
    × (up ≡ handed_up u waiting.from (heard waiting bytes) (event.Bytes link bytes) post)

-- what an event makes of a front with that port
abbrev pub TurnsAt : ℕ → FrontSeen → Event → FrontSeen → Event → Type 0
TurnsAt u before (event.Tick moment) after up = (after ≡ ticked_to moment before) × (up ≡ event.Tick moment)
TurnsAt u before (event.Opened listener link from) after up =
    (after ≡ (if listener == u then record before { pool = opened link from before.moment before.pool } else before)) × (up ≡ event.Opened listener link from)
TurnsAt u before (event.Bytes link bytes) after up = Hears u link bytes (find (is_link link) before.pool.waiting) before after up
TurnsAt u before (event.Ended link) after up = (after ≡ record before { pool = without link before.pool }) × (up ≡ event.Ended link)
TurnsAt u before e after up = (after ≡ before) × (up ≡ e)

-- a front without a port passes everything on
abbrev pub TurnsBy : Option ℕ → FrontSeen → Event → FrontSeen → Event → Type 0
TurnsBy None before e after up = (after ≡ before) × (up ≡ e)
TurnsBy (Some u) before e after up = TurnsAt u before e after up

-- what an event that comes makes of a front, and the event that is handed up
abbrev pub Turns : FrontSeen → Event → FrontSeen → Event → Type 0
Turns before e after up = TurnsBy before.at before e after up
