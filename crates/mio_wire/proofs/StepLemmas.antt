-- One step of a wire, by what it hands up.
use Rattle.std.proofs.Common.{◌≡◌, ℕ, zero, suc, ◌+◌, ◌<◌, Bool, true, false, List, [], ◌∷◌, ◌++◌, length, map, Option, Some, None, Result, Ok, Err, IfOk, IsErr, refl, ap, subst, ◌∙◌, arith, rules, drop}
use Rattle.std.proofs.lemmas.List.{map-append}
use Rattle.std.specs.List.{Contains, slice_get}
use Rattle.std.proofs.lemmas.List.Elements.{Contains-append_left}
use Rattle.aprs_base.specs.declared.events.Event.{Event}
use Rattle.aprs_base.specs.declared.events.Event.TheVariants.{Bytes, Datagram, Ended, Joined, Opened, Room, Stop, Tick, Unjoined}
use Rattle.aprs_base.specs.declared.texts.Addr.{Addr}
use Rattle.mio_wire.specs.Arrivals.{IsArrival, Steps}
use Rattle.mio_wire.specs.Coming.{TicksAt}
use Rattle.mio_wire.specs.Dialled.{Answered, AnswersStep}
use Rattle.mio_wire.specs.Held.{BringsAt, Holding, NamesStep, OpensAt, holding}
use Rattle.mio_wire.specs.Linked.{TellsOfOne, TellsStep, dropped, numbers}
use Rattle.mio_wire.specs.Seen.{IsStep, Seen, StepsTo, seen}
use Rattle.mio_wire.specs.Unread.{Brought, IsHeld, Leaves, LeavesStep}
use Rattle.mio_wire.specs.declared.course.Course.{Course}
use Rattle.mio_wire.specs.declared.dials.Dial.{Dial}
use Rattle.mio_wire.specs.declared.links.Link.{Link}
use Rattle.mio_wire.specs.declared.wire.MioWire.{MioWire}
use Rattle.mio_wire.proofs.HeldLemmas.{contains_got, held_rest}

-- an event of bytes
abbrev is_piece : Event → Bool
is_piece (Bytes link bytes) = true
is_piece _ = false

-- any event but bytes takes none of those that are left
leaves_same : (before now : Brought) (left : List ℕ) (e : Event) → now ≡ before → is_piece e ≡ false → Leaves before now left e
unfolding Leaves
leaves_same before now [] e same other = tt
leaves_same before now (b ∷ bs) e same other = search rules

-- nothing is handed up, and nothing that is seen changes
pub keeps : (before now : Seen) → now.links ≡ before.links → now.made ≡ before.made → now.dials ≡ before.dials → now.unread ≡ before.unread → now.heard ≡ before.heard → IsStep before now None
unfolding AnswersStep LeavesStep NamesStep Steps TellsStep
keeps before now links made dials unread heard = record { links = (links, made); dials = dials; rest = λ left. unread; held = λ held. rw (links, unread) held; tells = tt; names = tt; heard = heard }

-- nothing changes at all
pub still : (s : Seen) → IsStep s s None
still s = keeps s s refl refl refl refl refl

-- bytes were read where none were left
pub reads : (before now : Seen) → length before.unread.left ≡ 0 → IsHeld now.unread before.links → now.links ≡ before.links → now.made ≡ before.made → now.dials ≡ before.dials → now.heard ≡ before.heard → IsStep before now None
unfolding AnswersStep LeavesStep NamesStep Steps TellsStep
reads before now empty there links made dials heard = record { links = (links, made); dials = dials; rest = λ left. absurd (omega arith); held = λ held. rw links there; tells = tt; names = tt; heard = heard }

-- a tick changes nothing that is seen
pub ticks : (before now : Seen) (moment : ℕ) → now ≡ before → IsStep before now (Some (Tick moment))
unfolding AnswersStep LeavesStep NamesStep Steps TellsStep
ticks before now moment same = rw same (record {
  links = (refl, refl);
  dials = refl;
  rest = leaves_same before.unread before.unread before.unread.left (Tick moment) refl refl;
  held = λ held. held;
  tells = tt;
  names = tt;
  heard = refl;
})

-- neither does a stop
pub stops : (s : Seen) → IsStep s s (Some Stop)
unfolding AnswersStep LeavesStep NamesStep Steps TellsStep
stops s = record { links = (refl, refl); dials = refl; rest = leaves_same s.unread s.unread s.unread.left Stop refl refl; held = λ held. held; tells = tt; names = tt; heard = refl }

-- a dial is answered that isn't joined
pub unjoins : (s : Seen) (uplink : ℕ) (dials : List Dial) → Answered uplink s.dials dials → IsStep s (record s { dials = dials }) (Some (Unjoined uplink))
unfolding AnswersStep LeavesStep NamesStep Steps TellsStep
unjoins s uplink dials answered = record { links = (refl, refl); dials = answered; rest = leaves_same s.unread s.unread s.unread.left (Unjoined uplink) refl refl; held = λ held. held; tells = tt; names = tt; heard = refl }

-- the numbers with one link more, for which there was room
pub numbers_more : {S : Type 0} → (before room now : List (Link S)) (link : Link S) (number : ℕ) → room ≡ before → now ≡ room ++ link ∷ [] → number ≡ link.number → numbers now ≡ numbers before ++ number ∷ []
numbers_more {S} before room now link number same last is =
    rw (is, ← same) (ap (map (λ (l : Link S). l.number)) last ∙ map-append (λ (l : Link S). l.number) room (link ∷ []))

-- bytes that are left are those of a link that is there, also among more
held_more : (brought : Brought) (ns : List ℕ) (n : ℕ) → IsHeld brought ns → IsHeld brought (ns ++ n ∷ [])
unfolding IsHeld
held_more brought ns n held = λ left. Contains-append_left ns (n ∷ []) brought.link (held left)

-- a dial is answered that is joined: its link is the last
pub joins : (before now : Seen) (uplink link : ℕ) (at : Addr) → link ≡ before.made + 1 → now.made ≡ before.made + 1 → now.links ≡ before.links ++ link ∷ [] →
    (a : Answered uplink before.dials now.dials) → a.dial.at ≡ at → now.unread ≡ before.unread → now.heard ≡ before.heard → IsStep before now (Some (Joined uplink link at))
unfolding AnswersStep LeavesStep NamesStep Steps TellsStep
joins before now uplink link at next made last a address unread heard = record {
  links = (last, (next, made));
  dials = (a, address);
  rest = leaves_same before.unread now.unread before.unread.left (Joined uplink link at) unread refl;
  held = rw (last, unread) (held_more before.unread before.links link);
  tells = tt;
  names = tt;
  heard = heard;
}

-- a listener opens a link, which is the last
pub opens : (before now : Seen) (place listener link : ℕ) (from : Addr) → link ≡ before.made + 1 → now.made ≡ before.made + 1 → now.links ≡ before.links ++ link ∷ [] →
    slice_get before.heard.links place ≡ Some listener → now.dials ≡ before.dials → now.unread ≡ before.unread → now.heard ≡ before.heard → IsStep before now (Some (Opened listener link from))
unfolding AnswersStep LeavesStep NamesStep Steps TellsStep
opens before now place listener link from next made last at dials unread heard = record {
  links = (last, (next, made));
  dials = dials;
  rest = leaves_same before.unread now.unread before.unread.left (Opened listener link from) unread refl;
  held = rw (last, unread) (held_more before.unread before.links link);
  tells = tt;
  names = contains_got before.heard.links place listener at;
  heard = heard;
}

-- a listener brings a datagram
pub brings : (s : Seen) (place listener : ℕ) (from : Addr) (bytes : List ℕ) → slice_get s.heard.mail place ≡ Some listener → IsStep s s (Some (Datagram listener from bytes))
unfolding AnswersStep LeavesStep NamesStep Steps TellsStep
brings s place listener from bytes at = record { links = (refl, refl); dials = refl; rest = leaves_same s.unread s.unread s.unread.left (Datagram listener from bytes) refl refl; held = λ held. held; tells = tt; names = contains_got s.heard.mail place listener at; heard = refl }

-- a link that is there has room again
pub has_room : (s : Seen) (link : ℕ) → Contains s.links link → IsStep s s (Some (Room link))
unfolding AnswersStep LeavesStep NamesStep Steps TellsStep
has_room s link there = record { links = (refl, refl); dials = refl; rest = leaves_same s.unread s.unread s.unread.left (Room link) refl refl; held = λ held. held; tells = there; names = tt; heard = refl }

nothing_left : (before now : Brought) (left : List ℕ) (e : Event) → length left ≡ 0 → Leaves before now left e
unfolding Leaves
nothing_left before now [] e empty = tt
nothing_left before now (b ∷ bs) e empty = absurd (omega arith)

-- a link ends that is there, where no bytes are left
pub ends : (before now : Seen) (link : ℕ) → length before.unread.left ≡ 0 → IsHeld now.unread now.links → Contains before.links link → now.links ≡ dropped link before.links → now.made ≡ before.made → now.dials ≡ before.dials →
    now.heard ≡ before.heard → IsStep before now (Some (Ended link))
unfolding AnswersStep LeavesStep NamesStep Steps TellsStep
ends before now link empty held there links made dials heard = record {
  links = (links, made);
  dials = dials;
  rest = nothing_left before.unread now.unread before.unread.left (Ended link) empty;
  held = λ before. held;
  tells = there;
  names = tt;
  heard = heard;
}

abbrev brought : ℕ → List ℕ → Brought
brought link left = record { link = link; left = left }

-- where none are left, none are taken
pub nothing_taken : (most link : ℕ) (left : List ℕ) → length left ≡ 0 → brought link (drop most left) ≡ brought link left
nothing_taken zero link [] empty = refl
nothing_taken (suc most) link [] empty = refl
nothing_taken most link (b ∷ bs) empty = absurd (omega arith)

takes_first : (link : ℕ) (left : List ℕ) (before now : Brought) (bytes : List ℕ) → now ≡ record before { left = drop 1460 left } → Leaves before now left (Bytes link bytes)
unfolding Leaves
takes_first link [] before now bytes same = tt
takes_first link (b ∷ bs) before now bytes same = same

-- the first of the bytes that are left are handed up
pub hands_up : (s : Seen) (link : ℕ) (bytes : List ℕ) → link ≡ s.unread.link → 0 < length s.unread.left →
    IsStep s (record s { unread = record s.unread { left = drop 1460 s.unread.left } }) (Some (Bytes link bytes))
unfolding AnswersStep IsHeld LeavesStep NamesStep Steps TellsStep
hands_up s link bytes same some = record {
  links = (refl, refl);
  dials = refl;
  rest = takes_first link s.unread.left s.unread (record s.unread { left = drop 1460 s.unread.left }) bytes refl;
  held = held_rest 1460 s.unread s.links;
  tells = λ held. rw same (held some);
  names = tt;
  heard = refl;
}

-- what is seen of a wire stays where its links and dials do, and what its sockets hold
pub same_seen : {R Stream Listener : Type 0} (before now : MioWire R Stream Listener) → now.links ≡ before.links → now.dials ≡ before.dials → holding now.sockets ≡ holding before.sockets → seen now ≡ seen before
same_seen before now links dials held = rw (links, dials) (ap (λ (h : Holding). record (seen before) { unread = h.unread; heard = h.heard }) held)

-- sockets that are opened change nothing of what was seen
pub from_opened : {R Stream Listener : Type 0} (start opened : MioWire R Stream Listener) (now : Seen) (o : Option Event) → opened ≡ record start { sockets = opened.sockets } → holding opened.sockets ≡ holding start.sockets →
    IsStep (seen opened) now o → IsStep (seen start) now o
from_opened {R} {Stream} {Listener} start opened now o kept held step =
    let same = same_seen start opened (ap (λ (w : MioWire R Stream Listener). w.links) kept) (ap (λ (w : MioWire R Stream Listener). w.dials) kept) held in
    subst (λ (s : Seen). IsStep s now o) same step

-- a step that fails
pub fails : {E : Type 0} (before now : Seen) (r : Result (Option Event) E) → IsErr r → now ≡ before → StepsTo before now r
fails before now (Ok o) failed same = absurd (search rules)
fails before now (Err e) failed same = same

-- a tick, or nothing
pub ticks_at : {E : Type 0} (course : Course) (before now : Seen) (r : Result (Option Event) E) → now ≡ before → IfOk r (TicksAt course) → StepsTo before now r
unfolding TicksAt
ticks_at course before now (Ok None) same at = rw same (still before)
ticks_at course before now (Ok (Some (Tick moment))) same at = ticks before now moment same
ticks_at course before now (Ok (Some _)) same at = absurd at
ticks_at course before now (Err e) same at = same

-- a datagram, or nothing
pub brings_at : {E : Type 0} (place : ℕ) (before now : Seen) (r : Result (Option Event) E) → now ≡ before → IfOk r (BringsAt before.heard.mail place) → StepsTo before now r
unfolding BringsAt
brings_at place before now (Ok None) same at = rw same (still before)
brings_at place before now (Ok (Some (Datagram listener from bytes))) same at = rw same (brings before place listener from bytes at)
brings_at place before now (Ok (Some _)) same at = absurd at
brings_at place before now (Err e) same at = same

-- a new link or a datagram arrives
pub opened_arrives : {E : Type 0} (listeners : List ℕ) (place : ℕ) (r : Result (Option Event) E) → IfOk r (OpensAt listeners place) → IfOk r IsArrival
unfolding IsArrival OpensAt
opened_arrives listeners place r at = search rules

pub brought_arrives : {E : Type 0} (listeners : List ℕ) (place : ℕ) (r : Result (Option Event) E) → IfOk r (BringsAt listeners place) → IfOk r IsArrival
unfolding BringsAt IsArrival
brought_arrives listeners place r at = search rules

left_from : (link : ℕ) (left : List ℕ) (held now : Brought) (o : Option Event) → (0 < length left → held ≡ record { link = link; left = left }) → LeavesStep held now o → LeavesStep (record { link = link; left = left }) now o
unfolding Leaves LeavesStep
left_from link [] held now None same leaves = λ left. absurd (omega arith)
left_from link [] held now (Some e) same leaves = tt
left_from link (b ∷ bs) held now o same leaves = subst (λ (w : Brought). LeavesStep w now o) (same (omega arith)) leaves

tells_from : (held' held : Type 0) (ns : List ℕ) (o : Option Event) → (held' → held) → TellsStep held ns o → TellsStep held' ns o
unfolding TellsStep
tells_from held' held ns None holds tells = tt
tells_from held' held ns (Some (Bytes link bytes)) holds tells = λ h. tells (holds h)
tells_from held' held ns (Some _) holds tells = tells

-- what a step tells of a link where bytes that were left are of one that is there
pub told : (held : Type 0) (ns : List ℕ) (e : Event) → TellsStep held ns (Some e) → held → TellsOfOne ns e
unfolding TellsStep
told held ns (Bytes link bytes) tells h = tells h
told held ns _ tells h = tells

-- a step after one that hands nothing up is a step from where that began
pub after : (start before now : Seen) (o : Option Event) → IsStep start before None → IsStep before now o → IsStep start now o
unfolding AnswersStep LeavesStep Steps
after start before now o first next = record {
  links = rw (first.links.0, first.links.1) at next.links;
  dials = rw first.dials at next.dials;
  rest = left_from start.unread.link start.unread.left before.unread now.unread o first.rest next.rest;
  held = λ held. next.held (first.held held);
  tells = tells_from (IsHeld start.unread start.links) (IsHeld before.unread before.links) start.links o first.held (subst (λ (ns : List ℕ). TellsStep (IsHeld before.unread before.links) ns o) first.links.0 next.tells);
  names = rw first.heard at next.names;
  heard = next.heard ∙ first.heard;
}
