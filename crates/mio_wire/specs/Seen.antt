-- A wire as its steps change it, and one step.
use Rattle.std.specs.Prelude.{◌≡◌, ℕ, List, Option, Result, Ok, Err}
use Rattle.aprs_base.specs.declared.events.Event.{Event}
use Rattle.mio_wire.specs.declared.dials.Dial.{Dial}
use Rattle.mio_wire.specs.declared.dials.Dials.{Dials}
use Rattle.mio_wire.specs.declared.links.Links.{Links}
use Rattle.mio_wire.specs.declared.sockets.Sockets.{Sockets}
use Rattle.mio_wire.specs.declared.wire.MioWire.{MioWire}
use Rattle.mio_wire.specs.Arrivals.{Steps}
use Rattle.mio_wire.specs.Dialled.{AnswersStep}
use Rattle.mio_wire.specs.Held.{Listening, NamesStep, listening, listening_of, unread}
use Rattle.mio_wire.specs.Linked.{TellsStep, numbers}
use Rattle.mio_wire.specs.Unread.{Brought, IsHeld, LeavesStep}

-- the links by their numbers and how many were made, the dials that are not answered, the bytes that were read and are not handed up, and who listens
pub record Seen : Type 0 where
  pub links : List ℕ
  pub made : ℕ
  pub dials : List Dial
  pub unread : Brought
  pub heard : Listening

-- a wire whose sockets are open
abbrev pub seen_of : {S : Type 0} → Sockets → Links S → Dials → Seen
seen_of sockets links dials = record { links = numbers links.list.items; made = links.made; dials = dials.list.items; unread = sockets.inbox; heard = listening_of sockets }

abbrev pub seen : {R Stream Listener : Type 0} → MioWire R Stream Listener → Seen
seen wire = record { links = numbers wire.links.list.items; made = wire.links.made; dials = wire.dials.list.items; unread = unread wire.sockets; heard = listening wire.sockets }

-- one step, by what it hands up: links come and go by that alone, a dial that is answered is there no more, bytes that are left stay but for those that
-- are handed up, and are those of a link that is there, and what tells of a link or of a listener tells of one that is there
pub record IsStep (before now : Seen) (o : Option Event) : Type 0 where
  pub links : Steps before.links now.links before.made now.made o
  pub dials : AnswersStep before.dials now.dials o
  pub rest : LeavesStep before.unread now.unread o
  pub held : IsHeld before.unread before.links → IsHeld now.unread now.links
  pub tells : TellsStep (IsHeld before.unread before.links) before.links o
  pub names : NamesStep before.heard o
  pub heard : now.heard ≡ before.heard

-- a step that may fail: then all that is seen stays
abbrev pub StepsTo : {E : Type 0} → (before now : Seen) → Result (Option Event) E → Type 0
StepsTo before now (Ok o) = IsStep before now o
StepsTo before now (Err e) = now ≡ before
