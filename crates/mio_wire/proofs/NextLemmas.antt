-- What comes next by what was unread at the start, where nothing was read while that was left.
use Rattle.std.proofs.Common.{◌≡◌, ◌≢◌, ℕ, ◌<◌, Bool, true, false, List, [], ◌∷◌, length, Option, Some, None, IfSome, Result, Ok, Err, IfOk, refl, sym, ap, subst, arith, rules}
use Rattle.std.specs.Bool.{IsTrue}
use Rattle.aprs_base.specs.declared.events.Event.{Event}
use Rattle.aprs_base.specs.declared.events.Event.TheVariants.{Stop, Tick}
use Rattle.mio_wire.specs.Arrivals.{IsArrival}
use Rattle.mio_wire.specs.Coming.{Comes, ComesNext, Passes, Rests, StepGives, TicksAt, dead_at, has_stopped, is_arrival}
use Rattle.mio_wire.specs.Dialled.{AnswersStep}
use Rattle.mio_wire.specs.Held.{IsServed, MovesAt, holding, unread}
use Rattle.mio_wire.specs.Pacing.{is_due, is_full}
use Rattle.mio_wire.specs.Seen.{IsStep, Seen}
use Rattle.mio_wire.specs.Unread.{Brought, HandsUp, IsNextOf, LeavesStep, nothing}
use Rattle.mio_wire.specs.declared.course.Course.{Course}
use Rattle.mio_wire.specs.declared.dials.Dial.{Dial}
use Rattle.mio_wire.specs.declared.sockets.Sockets.{Sockets}

next_from : (link : ℕ) (left : List ℕ) (now : Brought) (e : Event) → (0 < length left → now ≡ record { link = link; left = left }) → IsNextOf now.link now.left e → IsNextOf link left e
next_from link [] now e same next = tt
next_from link (b ∷ bs) now e same next = subst (λ (w : Brought). IsNextOf w.link w.left e) (same (omega arith)) next

comes_by : (last : Option ℕ) (stopped full due : Bool) (dead : Option ℕ) (before now : Brought) (e : Event) → (0 < length before.left → now ≡ before) → Comes last stopped full due dead now e → Comes last stopped full due dead before e
comes_by None stopped full due dead before now e same comes = comes
comes_by (Some moment) true full due dead before now e same comes = comes
comes_by (Some moment) false true due dead before now e same comes = comes
comes_by (Some moment) false false due (Some uplink) before now e same comes = comes
comes_by (Some moment) false false due None before now e same comes = (comes.0, next_from before.link before.left now e same comes.1)

comes_from : (course : Course) (dials : List Dial) (before now : Brought) (e : Event) → (0 < length before.left → now ≡ before) → ComesNext course dials now e → ComesNext course dials before e
unfolding ComesNext
comes_from course dials before now e same comes =
    comes_by course.second (has_stopped course.stop_after course.ended) (is_full course.pace) (is_due course.pace) (dead_at course.second dials) before now e same comes

-- what comes next comes next too from where steps began that handed nothing up
pub comes_after : (course : Course) (start before : Seen) (e : Event) → IsStep start before None → ComesNext course before.dials before.unread e → ComesNext course start.dials start.unread e
unfolding AnswersStep LeavesStep
comes_after course start before e first comes = comes_from course start.dials start.unread before.unread e first.rest (rw first.dials at comes)

no_stop : (e : Event) → IsTrue (is_arrival e) → e ≢ Stop
no_stop e arrives = λ same. let is : is_arrival Stop ≡ true = rw same at arrives in absurd cc

rests : (due : Bool) (moment : ℕ) (e : Event) → IsTrue (is_arrival e) → Rests due moment e
rests true moment e arrives = no_stop e arrives
rests false moment e arrives = (no_stop e arrives, λ same. let is : is_arrival (Tick moment) ≡ true = rw same at arrives in absurd cc)

arrived_comes : (last : Option ℕ) (stopped full due : Bool) (dead : Option ℕ) (bytes : Brought) (e : Event) → Passes last stopped full dead nothing → IsTrue (is_arrival e) → IsNextOf bytes.link bytes.left e → Comes last stopped full due dead bytes e
arrived_comes None stopped full due dead bytes e undue arrives next = absurd undue
arrived_comes (Some moment) stopped full due dead bytes e undue arrives next = rw (undue.0, undue.1, undue.2) (rests due moment e arrives, next)

arrived_passes : (last : Option ℕ) (stopped full : Bool) (dead : Option ℕ) (bytes : Brought) → Passes last stopped full dead nothing → length bytes.left ≡ 0 → Passes last stopped full dead bytes
arrived_passes None stopped full dead bytes undue empty = absurd undue
arrived_passes (Some moment) stopped full dead bytes undue empty = (undue.0, undue.1, undue.2, empty)

-- where nothing is due, a step gives what has arrived
arrived_gives : (course : Course) (dials : List Dial) (bytes : Brought) (o : Option Event) → StepGives course dials nothing None → IsArrival o → HandsUp bytes o → StepGives course dials bytes o
unfolding ComesNext HandsUp IsArrival StepGives
arrived_gives course dials bytes None undue arrives handed =
    arrived_passes course.second (has_stopped course.stop_after course.ended) (is_full course.pace) (dead_at course.second dials) bytes undue handed
arrived_gives course dials bytes (Some e) undue arrives handed =
    arrived_comes course.second (has_stopped course.stop_after course.ended) (is_full course.pace) (is_due course.pace) (dead_at course.second dials) bytes e undue arrives handed

-- where nothing is due, a step that may fail gives what has arrived where it doesn't
pub arrived_gives_all : {E : Type 0} (course : Course) (dials : List Dial) (bytes : Brought) (r : Result (Option Event) E) → StepGives course dials nothing None → IfOk r IsArrival → IfOk r (HandsUp bytes) → IfOk r (StepGives course dials bytes)
arrived_gives_all course dials bytes (Ok o) undue arrives handed = arrived_gives course dials bytes o undue arrives handed
arrived_gives_all course dials bytes (Err e) undue arrives handed = tt

no_tick : (last : Option ℕ) (sockets : Option Sockets) (e : Event) → IsTrue (is_arrival e) → MovesAt last sockets e
unfolding MovesAt
no_tick last sockets e arrives = search rules

-- what arrives is no tick
pub arrived_moves : {E : Type 0} (last : Option ℕ) (sockets : Option Sockets) (r : Result (Option Event) E) → IfOk r IsArrival → IfOk r (λ o. IfSome o (MovesAt last sockets))
unfolding IsArrival
arrived_moves last sockets (Ok None) arrives = tt
arrived_moves last sockets (Ok (Some e)) arrives = no_tick last sockets e arrives
arrived_moves last sockets (Err e) arrives = tt

-- where all that came is served, no bytes are left
pub served_none : (sockets : Option Sockets) → IsServed sockets → length (unread sockets).left ≡ 0
unfolding IsServed holding
served_none None served = refl
served_none (Some sockets) served = served.0

none_next : (link : ℕ) (left : List ℕ) (e : Event) → length left ≡ 0 → IsNextOf link left e
none_next link [] e empty = tt
none_next link (b ∷ bs) e empty = absurd (omega arith)

tick_rests : (due : Bool) (moment last : ℕ) → (due ≡ false → Some last ≢ Some moment) → Rests due last (Tick moment)
tick_rests true moment last undue = λ same. absurd cc
tick_rests false moment last undue = (λ same. absurd cc, λ same. let is : moment ≡ last = cc in absurd (undue refl (ap Some (sym is))))

tick_comes : (last : Option ℕ) (stopped full due : Bool) (dead : Option ℕ) (bytes : Brought) (moment : ℕ) → Passes last stopped full dead nothing → length bytes.left ≡ 0 → (due ≡ false → last ≢ Some moment) → Comes last stopped full due dead bytes (Tick moment)
tick_comes None stopped full due dead bytes moment undue empty ticks = absurd undue
tick_comes (Some last) stopped full due dead bytes moment undue empty ticks = rw (undue.0, undue.1, undue.2) (tick_rests due moment last ticks, none_next bytes.link bytes.left (Tick moment) empty)

-- where nothing is due and no bytes are left, a step gives a tick, or nothing
tick_gives : (course : Course) (dials : List Dial) (bytes : Brought) (o : Option Event) → StepGives course dials nothing None → length bytes.left ≡ 0 → TicksAt course o → StepGives course dials bytes o
unfolding ComesNext StepGives TicksAt
tick_gives course dials bytes None undue empty ticks =
    arrived_passes course.second (has_stopped course.stop_after course.ended) (is_full course.pace) (dead_at course.second dials) bytes undue empty
tick_gives course dials bytes (Some (Tick moment)) undue empty ticks =
    tick_comes course.second (has_stopped course.stop_after course.ended) (is_full course.pace) (is_due course.pace) (dead_at course.second dials) bytes moment undue empty ticks
tick_gives course dials bytes (Some _) undue empty ticks = absurd ticks

-- where nothing is due and no bytes are left, a step that may fail gives a tick, or nothing, where it doesn't
pub tick_gives_all : {E : Type 0} (course : Course) (dials : List Dial) (bytes : Brought) (r : Result (Option Event) E) → StepGives course dials nothing None → length bytes.left ≡ 0 → IfOk r (TicksAt course) → IfOk r (StepGives course dials bytes)
tick_gives_all course dials bytes (Ok o) undue empty ticks = tick_gives course dials bytes o undue empty ticks
tick_gives_all course dials bytes (Err e) undue empty ticks = tt
