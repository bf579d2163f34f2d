-- The links by their numbers.
use Rattle.std.specs.Prelude.{Bool, if◌then◌else◌, ◌==◌, ◌&&◌, ◌||◌, ⊤, Contains, Option, Some, None, option_and_then, slice_get, take, ℕ, ◌<◌, ◌≤◌, not, List, [], ◌∷◌, ◌++◌, All, AllPairs, map, filter}
use Rattle.std.specs.Io.KnownBytes.{Appends}
use Rattle.aprs_base.specs.declared.events.Event.{Event}
use Rattle.aprs_base.specs.declared.events.Event.TheVariants as event
use Rattle.aprs_base.specs.declared.events.Sent.{Sent}
use Rattle.aprs_base.specs.declared.events.Sent.TheVariants as sent
use Rattle.mio_wire.specs.declared.links.Link.{Link}
use Rattle.mio_wire.specs.declared.links.Reading.{Reading}
use Rattle.mio_wire.specs.declared.links.Reading.TheVariants as reading
use Rattle.mio_wire.specs.declared.turns.Ready.{Ready}

abbrev pub numbers : {S : Type 0} → List (Link S) → List ℕ
numbers links = map (λ l. l.number) links

-- what is known of the bytes of the stream of the link at a place
unfoldable pub at_place : {S : Type 0} → (S → Option (List ℕ)) → List (Link S) → ℕ → Option (List ℕ)
at_place known links place = option_and_then (λ l. known l.stream) (slice_get links place)

-- what a link took of an offer is written after all that was
unfoldable pub TakesBytes : (before now : Option (List ℕ)) → List ℕ → Sent → Type 0
TakesBytes before now bytes (sent.Took count) = Appends before now (take count bytes)
TakesBytes before now bytes sent.Gone = ⊤

-- each number is below all later ones
abbrev pub IsRising : List ℕ → Type 0
IsRising ns = AllPairs (λ a b. a < b) ns

-- no number is above that of the last link that was made
abbrev pub IsCounted : ℕ → List ℕ → Type 0
IsCounted made ns = All (λ n. n ≤ made) ns

-- the links but for the one with that number
abbrev pub without : {S : Type 0} → ℕ → List (Link S) → List (Link S)
without number links = filter (λ l. not (l.number == number)) links

-- a link once the poll told of it: one that was blocked has room again where it can be written to
abbrev pub noted : {S : Type 0} → Ready → Link S → Link S
noted ready link = record link { closed = link.closed || ready.closed; blocked = link.blocked && not ready.writable }

-- what a read tells that brought so many bytes: there may be more where they were a whole read, and else the end is next where the peer has ended
-- its side
unfoldable pub reading_of : (count : ℕ) (closed : Bool) → Reading
reading_of count closed = if count == 2920 then reading.More else (if closed then reading.Last else reading.All)

-- the numbers but for that one
abbrev pub dropped : ℕ → List ℕ → List ℕ
dropped number ns = filter (λ n. not (n == number)) ns

-- the numbers after an event: a new link's is the last, and that of one that ended is there no more
abbrev pub numbers_after : Event → List ℕ → List ℕ
numbers_after (event.Opened listener link from) ns = ns ++ link ∷ []
numbers_after (event.Joined uplink link at) ns = ns ++ link ∷ []
numbers_after (event.Ended link) ns = dropped link ns
numbers_after (event.Tick moment) ns = ns
numbers_after (event.Unjoined uplink) ns = ns
numbers_after (event.Bytes link bytes) ns = ns
numbers_after (event.Room link) ns = ns
numbers_after (event.Datagram listener from bytes) ns = ns
numbers_after event.Stop ns = ns

-- an event that tells of a link tells of one that is there
abbrev pub TellsOfOne : List ℕ → Event → Type 0
TellsOfOne ns (event.Bytes link bytes) = Contains ns link
TellsOfOne ns (event.Ended link) = Contains ns link
TellsOfOne ns (event.Room link) = Contains ns link
TellsOfOne ns (event.Opened listener link from) = ⊤
TellsOfOne ns (event.Joined uplink link at) = ⊤
TellsOfOne ns (event.Tick moment) = ⊤
TellsOfOne ns (event.Unjoined uplink) = ⊤
TellsOfOne ns (event.Datagram listener from bytes) = ⊤
TellsOfOne ns event.Stop = ⊤

-- a step that tells of a link tells of one that is there: with bytes, where those that were left are of such a one
unfoldable pub TellsStep : (held : Type 0) → List ℕ → Option Event → Type 0
TellsStep held ns None = ⊤
TellsStep held ns (Some (event.Bytes link bytes)) = held → Contains ns link
TellsStep held ns (Some e) = TellsOfOne ns e

-- only a link that is there takes a part of an offer
abbrev pub TakesOf : List ℕ → (link : ℕ) → Sent → Type 0
TakesOf ns link (sent.Took count) = Contains ns link
TakesOf ns link sent.Gone = ⊤
