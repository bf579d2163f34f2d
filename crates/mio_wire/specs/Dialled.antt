-- Dials that are not answered yet.
use Rattle.std.specs.Prelude.{◌≡◌, ℕ, Bool, true, false, nat_le, List, [], ◌∷◌, ◌++◌, Option, Some, None, IfSome, is_none, option_map, option_and_then, position, remove, slice_get}
use Rattle.std.specs.Int.{abs_diff}
use Rattle.aprs_base.specs.declared.events.Event.{Event}
use Rattle.aprs_base.specs.declared.events.Event.TheVariants as event
use Rattle.std.specs.Net.Grammar.{IsIpv4Text}
use Rattle.std.specs.declared.net.ipv4_addr.Ipv4Addr.{Ipv4Addr}
use Rattle.aprs_base.specs.UplinkSeen.{UplinkSeen}
use Rattle.mio_wire.specs.Names.{IsIn}
use Rattle.mio_wire.specs.declared.dials.Dial.{Dial}
use Rattle.mio_wire.specs.declared.dials.Outcome.{Outcome}
use Rattle.mio_wire.specs.declared.dials.Outcome.TheVariants.{Waits, Joins, Fails}

-- how many seconds after its beginning a dial is dead: at another second's tick where it failed, and else where no answer came for 30 s
abbrev pub lasts : (failed : Bool) → ℕ
lasts true = 1
lasts false = 30

unfoldable pub is_dead : ℕ → Dial → Bool
is_dead second dial = nat_le (lasts (is_none dial.stream)) (abs_diff second dial.since)

-- the uplink of the first dial that is dead
unfoldable pub first_dead : ℕ → List Dial → Option ℕ
first_dead second dials = option_and_then (λ place. option_map (λ d. d.uplink) (slice_get dials place)) (position (is_dead second) dials)

-- by whether the poll told of its socket, and whether that has a peer: nothing is known before the poll tells of it
abbrev pub outcome_of : (told peer : Bool) → Outcome
outcome_of false peer = Waits
outcome_of true true = Joins
outcome_of true false = Fails

-- a dial of that uplink is answered, and the others stay
pub record Answered (uplink : ℕ) (before now : List Dial) : Type 0 where
  pub place : ℕ
  pub dial : Dial
  pub there : slice_get before place ≡ Some dial
  pub named : dial.uplink ≡ uplink
  pub others : now ≡ remove before place

-- the dials after an event: a joined link is at the address that its dial was for
abbrev pub Answers : Event → List Dial → List Dial → Type 0
Answers (event.Joined uplink link at) before now = (a : Answered uplink before now) × (a.dial.at ≡ at)
Answers (event.Unjoined uplink) before now = Answered uplink before now
Answers (event.Tick moment) before now = now ≡ before
Answers (event.Opened listener link from) before now = now ≡ before
Answers (event.Bytes link bytes) before now = now ≡ before
Answers (event.Ended link) before now = now ≡ before
Answers (event.Room link) before now = now ≡ before
Answers (event.Datagram listener from bytes) before now = now ≡ before
Answers event.Stop before now = now ≡ before

-- the dials after a step
unfoldable pub AnswersStep : List Dial → List Dial → Option Event → Type 0
AnswersStep before now None = now ≡ before
AnswersStep before now (Some e) = Answers e before now

-- a dial of an uplink is the last: since the moment of the last tick, and, where its host is written in digits, for that address
pub record Begins (uplink : ℕ) (spec : UplinkSeen) (second : Option ℕ) (before now : List Dial) : Type 0 where
  pub dial : Dial
  pub named : dial.uplink ≡ uplink
  pub digits : (a : Ipv4Addr) → IsIpv4Text spec.host a → IsIn spec.host spec.port (Some dial.at)
  pub since : IfSome second (λ moment. dial.since ≡ moment)
  pub last : now ≡ before ++ dial ∷ []
