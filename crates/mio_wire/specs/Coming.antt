-- How far a wire has come, and what comes next of it.
use Rattle.std.specs.Prelude.{◌≡◌, ◌≢◌, ⊤, ℕ, ◌+◌, ◌-◌, ◌^◌, Bool, true, false, min, nat_le, List, length, Option, Some, None, Result, Ok, Err, IsTrue}
use Rattle.aprs_base.specs.declared.events.Event.{Event}
use Rattle.aprs_base.specs.declared.events.Event.TheVariants as event
use Rattle.aprs_base.specs.declared.events.Sent.{Sent}
use Rattle.aprs_base.specs.declared.events.Sent.TheVariants as sent
use Rattle.mio_wire.specs.declared.course.Course.{Course}
use Rattle.mio_wire.specs.declared.dials.Dial.{Dial}
use Rattle.mio_wire.specs.Dialled.{first_dead}
use Rattle.mio_wire.specs.Unread.{Brought, IsNextOf}
use Rattle.mio_wire.specs.Pacing.{is_due, is_full, rested, with_bytes, with_event, with_taken}

-- as many links ended as were asked for
unfoldable pub has_stopped : (stop_after : Option ℕ) (ended : ℕ) → Bool
has_stopped None ended = false
has_stopped (Some count) ended = nat_le count ended

-- how far it has come with an event: the moment of the last tick, the ends of links, and what was handed up since that tick
abbrev pub after_event : Event → Course → Course
after_event (event.Tick moment) course = record course { second = Some moment; pace = rested }
after_event (event.Ended link) course = record course { ended = min (course.ended + 1) (2 ^ 32 - 1); pace = with_event course.pace }
after_event (event.Bytes link bytes) course = record course { pace = with_bytes bytes course.pace }
after_event (event.Datagram listener from bytes) course = record course { pace = with_bytes bytes course.pace }
after_event (event.Opened listener link from) course = record course { pace = with_event course.pace }
after_event (event.Joined uplink link at) course = record course { pace = with_event course.pace }
after_event (event.Unjoined uplink) course = record course { pace = with_event course.pace }
after_event (event.Room link) course = record course { pace = with_event course.pace }
after_event event.Stop course = course

-- how far it has come with an offer
abbrev pub after_offer : {E : Type 0} → Result Sent E → Course → Course
after_offer (Ok (sent.Took count)) course = record course { pace = with_taken count course.pace }
after_offer (Ok sent.Gone) course = course
after_offer (Err e) course = course

abbrev pub is_tick : Event → Bool
is_tick (event.Tick moment) = true
is_tick _ = false

-- what arrives: anything but a tick and a stop
abbrev pub is_arrival : Event → Bool
is_arrival (event.Tick moment) = false
is_arrival event.Stop = false
is_arrival _ = true

-- where nothing is due and no bytes are left: no stop, and no second tick of a moment where nothing was handed up since the first
abbrev pub Rests : (due : Bool) (moment : ℕ) → Event → Type 0
Rests true moment e = e ≢ event.Stop
Rests false moment e = (e ≢ event.Stop) × (e ≢ event.Tick moment)

-- by the moment of the last tick, whether enough links ended, what was handed up, and the uplink of the first dead dial
abbrev pub Comes : (last : Option ℕ) (stopped full due : Bool) (dead : Option ℕ) → Brought → Event → Type 0
Comes None stopped full due dead bytes e = IsTrue (is_tick e)
Comes (Some moment) true full due dead bytes e = e ≡ event.Stop
Comes (Some moment) false true due dead bytes e = e ≡ event.Tick moment
Comes (Some moment) false false due (Some uplink) bytes e = e ≡ event.Unjoined uplink
Comes (Some moment) false false due None bytes e = Rests due moment e × IsNextOf bytes.link bytes.left e

-- the uplink of the first dial that is dead at the moment of the last tick
abbrev pub dead_at : Option ℕ → List Dial → Option ℕ
dead_at None dials = None
dead_at (Some moment) dials = first_dead moment dials

-- what comes next: a tick before anything else; a stop once enough links ended; a tick of the last moment where one is due at once; the answer
-- to a dial that failed or is too old; the next bytes that were read; and else no stop, nor a tick that repeats one
unfoldable pub ComesNext : Course → List Dial → Brought → Event → Type 0
ComesNext course dials bytes e = Comes course.second (has_stopped course.stop_after course.ended) (is_full course.pace) (is_due course.pace) (dead_at course.second dials) bytes e

-- a step that gives no event is taken only where none of these is due
abbrev pub Passes : (last : Option ℕ) (stopped full : Bool) (dead : Option ℕ) → Brought → Type 0
Passes None stopped full dead bytes = ⊥
Passes (Some moment) stopped full dead bytes = (stopped ≡ false) × (full ≡ false) × (dead ≡ None) × (length bytes.left ≡ 0)

unfoldable pub StepGives : Course → List Dial → Brought → Option Event → Type 0
StepGives course dials bytes (Some e) = ComesNext course dials bytes e
StepGives course dials bytes None = Passes course.second (has_stopped course.stop_after course.ended) (is_full course.pace) (dead_at course.second dials) bytes

-- nothing, or a tick: one of the last moment only where one is due
unfoldable pub TicksAt : Course → Option Event → Type 0
TicksAt course None = ⊤
TicksAt course (Some (event.Tick moment)) = is_due course.pace ≡ false → course.second ≢ Some moment
TicksAt course (Some _) = ⊥
