-- What the outside shows of itself: counts of faults that never fall, and, where it tells them, what happened and what it holds.
use Rattle.std.specs.Prelude.{◌≡◌, ℕ, ◌+◌, ◌-◌, ◌≤◌, ◌^◌, ◌==◌, ◌&&◌, List, [], ◌∷◌, ◌++◌, length, min, Bool, true, Option, Some, None, Result, Ok, Err, OnOk, OnErr, IfOk, ⊤}
use Rattle.std.specs.Option.{option_map}
use Rattle.aprs_base.specs.declared.packets.ListenSpec.{ListenSpec}
use Rattle.aprs_base.specs.UplinkSeen.{UplinkSeen}
use Rattle.aprs_base.specs.declared.texts.Addr.{Addr}
use Rattle.aprs_base.specs.declared.events.Event.{Event}
use Rattle.aprs_base.specs.declared.events.Event.TheVariants as event
use Rattle.aprs_base.specs.declared.events.Sent.{Sent}
use Rattle.aprs_base.specs.declared.events.Sent.TheVariants as sent
use Rattle.aprs_base.specs.declared.events.Happening.{Happening}
use Rattle.aprs_base.specs.declared.events.Happening.TheVariants as did
use Rattle.aprs_base.specs.declared.events.WireError.{WireError}
use Rattle.aprs_base.specs.declared.events.WireError.TheVariants as wire_error

-- a counter's value after one more, which stays at the last value
abbrev pub one_more : ℕ → ℕ
one_more n = min (n + 1) (2 ^ 64 - 1)

-- a count of faults rose, or stands at a counter's last value
abbrev pub Rose : ℕ → ℕ → Type 0
Rose before now = one_more before ≤ now

-- what a wire tells: all that happened, in order, and where it listened, dialled and cast
pub record Told : Type 0 where
  pub done : List Happening
  pub listened : List ListenSpec
  pub dialled : List UplinkSeen
  pub cast_to : List Addr

-- what a wire shows: what it tells, where it tells it; its counts of failed calls of `listen`, of failed calls of `next` and of
-- lost links; how many links it made
pub record WireShown : Type 0 where
  pub told : Option Told
  pub failed_listens : ℕ
  pub failed_nexts : ℕ
  pub gones : ℕ
  pub links : ℕ

abbrev pub with_done : Happening → Told → Told
with_done x told = record told { done = told.done ++ x ∷ [] }

abbrev pub with_closed : ℕ → Told → Told
with_closed link told = with_done (did.Closed link) told

abbrev pub with_listen : ℕ → ListenSpec → Told → Told
with_listen n spec told = record told { done = told.done ++ did.Listen n ∷ []; listened = told.listened ++ spec ∷ [] }

abbrev pub with_dial : ℕ → UplinkSeen → Told → Told
with_dial n spec told = record told { done = told.done ++ did.Dialled n ∷ []; dialled = told.dialled ++ spec ∷ [] }

abbrev pub with_cast : ℕ → Addr → List ℕ → Told → Told
with_cast peer to bytes told = record told { done = told.done ++ did.Cast peer bytes ∷ []; cast_to = told.cast_to ++ to ∷ [] }

-- the link that an event brings
abbrev pub new_link : Event → Option ℕ
new_link (event.Opened listener link from) = Some link
new_link (event.Joined uplink link at) = Some link
new_link (event.Tick moment) = None
new_link (event.Unjoined uplink) = None
new_link (event.Bytes link bytes) = None
new_link (event.Ended link) = None
new_link (event.Room link) = None
new_link (event.Datagram listener from bytes) = None
new_link event.Stop = None

-- a new link has the next number
abbrev pub CountsLink : Option ℕ → ℕ → ℕ → Type 0
CountsLink None before now = now ≡ before
CountsLink (Some link) before now = (link ≡ before + 1) × (now ≡ before + 1)

-- some part of the bytes, or the link is gone
abbrev pub IsOutcome : List ℕ → Sent → Type 0
IsOutcome bytes (sent.Took n) = n ≤ length bytes
IsOutcome bytes sent.Gone = ⊤

-- a count of failed calls after one more: it is one more exactly where that failed
abbrev pub failed_after : {T : Type 0} → Result T WireError → ℕ → ℕ
failed_after (Ok _) failed = failed
failed_after (Err wire_error.Failed) failed = one_more failed
failed_after (Err wire_error.Memory) failed = failed

-- the count of lost links after an offer: it is one more exactly where the link is gone
abbrev pub gones_with : Sent → ℕ → ℕ
gones_with (sent.Took n) gones = gones
gones_with sent.Gone gones = one_more gones

abbrev pub gones_after : {E : Type 0} → Result Sent E → ℕ → ℕ
gones_after (Ok s) gones = gones_with s gones
gones_after (Err _) gones = gones

pub record AfterListen {T : Type 0} (old new : WireShown) (n : ℕ) (spec : ListenSpec) (result : Result T WireError) : Type 0 where
  pub ok : OnOk result (new.told ≡ option_map (with_listen n spec) old.told)
  pub err : OnErr result (new.told ≡ old.told)
  pub listens : new.failed_listens ≡ failed_after result old.failed_listens
  pub nexts : new.failed_nexts ≡ old.failed_nexts
  pub gones : new.gones ≡ old.gones
  pub links : new.links ≡ old.links

pub record AfterNext (old new : WireShown) (result : Result Event WireError) : Type 0 where
  pub ok : IfOk result (λ e. new.told ≡ option_map (with_done (did.Event e)) old.told)
  pub counts : IfOk result (λ e. CountsLink (new_link e) old.links new.links)
  pub err : OnErr result (new.told ≡ old.told)
  pub uncounted : OnErr result (new.links ≡ old.links)
  pub listens : new.failed_listens ≡ old.failed_listens
  pub nexts : new.failed_nexts ≡ failed_after result old.failed_nexts
  pub gones : new.gones ≡ old.gones

pub record AfterSend {E : Type 0} (old new : WireShown) (link : ℕ) (bytes : List ℕ) (result : Result Sent E) : Type 0 where
  pub ok : IfOk result (λ s. new.told ≡ option_map (with_done (did.Sent link bytes s)) old.told)
  pub part : IfOk result (IsOutcome bytes)
  pub err : OnErr result (new.told ≡ old.told)
  pub gones : new.gones ≡ gones_after result old.gones
  pub listens : new.failed_listens ≡ old.failed_listens
  pub nexts : new.failed_nexts ≡ old.failed_nexts
  pub links : new.links ≡ old.links

pub record AfterAct {T E : Type 0} (old new : WireShown) (change : Told → Told) (result : Result T E) : Type 0 where
  pub ok : OnOk result (new.told ≡ option_map change old.told)
  pub err : OnErr result (new.told ≡ old.told)
  pub gones : new.gones ≡ old.gones
  pub listens : new.failed_listens ≡ old.failed_listens
  pub nexts : new.failed_nexts ≡ old.failed_nexts
  pub links : new.links ≡ old.links

-- the links that events bring are numbered in order, after the first n
abbrev pub are_numbered : ℕ → List Event → Bool
are_numbered n [] = true
are_numbered n (e ∷ events) = numbers n (new_link e) (are_numbered n events) (are_numbered (n + 1) events)
  where
    numbers : ℕ → Option ℕ → Bool → Bool → Bool
    numbers n None same next = same
    numbers n (Some link) same next = (link == n + 1) && next
