-- A wire in memory, as contracts see it: what it tells, and what it is still to give.
use Rattle.std.specs.Prelude.{ℕ, List, [], ◌∷◌, Option, Some, None, min, length, drop, Result, Ok, Err}
use Rattle.aprs_base.specs.Outside.{Told, WireShown, gones_with, new_link, one_more, with_done, with_listen}
use Rattle.aprs_base.specs.declared.packets.ListenSpec.{ListenSpec}
use Rattle.aprs_base.specs.declared.events.Event.{Event}
use Rattle.aprs_base.specs.declared.events.Event.TheVariants as event
use Rattle.aprs_base.specs.declared.events.Sent.{Sent}
use Rattle.aprs_base.specs.declared.events.Sent.TheVariants as sent
use Rattle.aprs_base.specs.declared.events.Happening.TheVariants as did
use Rattle.aprs_base.specs.declared.events.WireError.{WireError}
use Rattle.aprs_base.specs.declared.events.WireError.TheVariants as wire_error
use Rattle.aprs_base.specs.declared.memory_wire.Take.{Take}
use Rattle.aprs_base.specs.declared.memory_wire.Take.TheVariants as take

pub record WireScript : Type 0 where
  pub told : Told
  pub left : List Event
  pub takes : List Take
  pub fail_listen : Option ℕ
  pub fail_next : Option ℕ
  pub listens : ℕ
  pub nexts : ℕ
  pub links : ℕ
  pub failed_listens : ℕ
  pub failed_nexts : ℕ
  pub gones : ℕ

abbrev pub script_of : List Event → List Take → Option ℕ → Option ℕ → WireScript
script_of events takes fail_listen fail_next = record {
  told = record { done = []; listened = []; dialled = []; cast_to = [] };
  left = events;
  takes = takes;
  fail_listen = fail_listen;
  fail_next = fail_next;
  listens = 0;
  nexts = 0;
  links = 0;
  failed_listens = 0;
  failed_nexts = 0;
  gones = 0;
}

abbrev pub shown_by : WireScript → WireShown
shown_by wire = record {
  told = Some wire.told;
  failed_listens = wire.failed_listens;
  failed_nexts = wire.failed_nexts;
  gones = wire.gones;
  links = wire.links;
}

-- what the wire gives next, and after the last event Stop
abbrev pub next_event : List Event → Event
next_event [] = event.Stop
next_event (e ∷ events) = e

-- what becomes of an offer, by the list
abbrev pub outcome_of : List Take → List ℕ → Sent
outcome_of [] bytes = sent.Took (length bytes)
outcome_of (take.All ∷ more) bytes = sent.Took (length bytes)
outcome_of (take.Most n ∷ more) bytes = sent.Took (min (length bytes) n)
outcome_of (take.Gone ∷ more) bytes = sent.Gone

-- how many links were made after an event
abbrev pub links_after : ℕ → Option ℕ → ℕ
links_after links None = links
links_after links (Some link) = link

-- The wire after each call, by its answer. A call for which memory was wanting counts as not made.

abbrev pub after_listen : {T : Type 0} → ℕ → ListenSpec → WireScript → Result T WireError → WireScript
after_listen n spec wire (Ok _) = record wire { told = with_listen n spec wire.told; listens = one_more wire.listens }
after_listen n spec wire (Err wire_error.Failed) = record wire { listens = one_more wire.listens; failed_listens = one_more wire.failed_listens }
after_listen n spec wire (Err wire_error.Memory) = wire

abbrev pub after_next : WireScript → Result Event WireError → WireScript
after_next wire (Ok e) = record wire {
  told = with_done (did.Event e) wire.told;
  left = drop 1 wire.left;
  nexts = one_more wire.nexts;
  links = links_after wire.links (new_link e);
}
after_next wire (Err wire_error.Failed) = record wire { nexts = one_more wire.nexts; failed_nexts = one_more wire.failed_nexts }
after_next wire (Err wire_error.Memory) = wire

abbrev pub after_send : {E : Type 0} → ℕ → List ℕ → WireScript → Result Sent E → WireScript
after_send link bytes wire (Ok s) = record wire {
  told = with_done (did.Sent link bytes s) wire.told;
  takes = drop 1 wire.takes;
  gones = gones_with s wire.gones;
}
after_send link bytes wire (Err _) = wire

abbrev pub after_act : {T E : Type 0} → (Told → Told) → WireScript → Result T E → WireScript
after_act change wire (Ok _) = record wire { told = change wire.told }
after_act change wire (Err _) = wire
