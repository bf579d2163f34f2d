-- What a call appends to the happenings that a wire tells: a run of the server, of which something holds.
use Rattle.std.specs.Prelude.{◌≡◌, ℕ, ◌+◌, Bool, true, false, List, [], ◌∷◌, ◌++◌, Option, Some, None, slice_get}
use Rattle.std.specs.Option.{option_map}
use Rattle.aprs_base.specs.Outside.{Told}
use Rattle.aprs_base.specs.UplinkSeen.{UplinkSeen}
use Rattle.aprs_base.specs.declared.texts.Addr.{Addr}
use Rattle.aprs_base.specs.declared.packets.ListenSpec.{ListenSpec}
use Rattle.aprs_base.specs.declared.events.Happening.{Happening}
use Rattle.aprs_base.specs.declared.events.Happening.TheVariants as did
use Rattle.aprs_history.specs.Setting.{Peer, Setting}
use Rattle.aprs_history.specs.Downs.{DownSeen, down_of}
use Rattle.aprs_history.specs.History.{History, trace_of}
use Rattle.aprs_history.specs.Acts.{IsRun}

-- how many listeners were opened
abbrev pub listens_in : History → ℕ
listens_in [] = 0
listens_in (did.Listen n ∷ earlier) = listens_in earlier + 1
listens_in (x ∷ earlier) = listens_in earlier

-- nothing but listeners was opened yet
abbrev pub are_listens : History → Bool
are_listens [] = true
are_listens (did.Listen n ∷ earlier) = are_listens earlier
are_listens (x ∷ earlier) = false

abbrev pub list_of : {X : Type 0} → Option X → List X
list_of None = []
list_of (Some x) = x ∷ []

-- where the server listened and whom it dialled, as the setting has it
abbrev pub listened_by : Setting → Happening → List ListenSpec
listened_by setting (did.Listen n) = list_of (slice_get setting.listens n)
listened_by setting x = []

abbrev pub dialled_by : Setting → Happening → List UplinkSeen
dialled_by setting (did.Dialled uplink) = list_of (slice_get setting.uplinks uplink)
dialled_by setting x = []

abbrev pub address_of : Peer → Addr
address_of peer = peer.at

abbrev pub down_address : DownSeen → Addr
down_address down = down.to

-- to a peer, or, with what is sent to a downlink, to that
abbrev pub cast_by : Setting → Happening → (earlier : History) → List Addr
cast_by setting (did.Cast peer bytes) earlier = list_of (option_map address_of (slice_get setting.peers peer))
cast_by setting (did.Sent link bytes outcome) earlier = list_of (option_map down_address (down_of setting (trace_of setting earlier) link))
cast_by setting x earlier = []

-- a list with what each happening adds to it, the oldest first
abbrev pub with_each : {X : Type 0} → (Happening → History → List X) → List X → History → List X
with_each adds start [] = start
with_each adds start (x ∷ earlier) = with_each adds start earlier ++ adds x earlier

-- what is told once all of this happened too, where the wire was asked by the first setting. Whom was cast to goes by what the
-- server saw of it, for which the lines that were cast to downlinks are sent to these.
abbrev pub told_after : (asked setting : Setting) → Told → (more seen : History) → Told
told_after asked setting told more seen = record {
  done = with_each (λ x earlier. x ∷ []) told.done more;
  listened = with_each (λ x earlier. listened_by asked x) told.listened more;
  dialled = with_each (λ x earlier. dialled_by asked x) told.dialled more;
  cast_to = with_each (cast_by setting) told.cast_to seen;
}

-- a server without downlinks sees all that happens
abbrev pub AppendsRun : Setting → Option Told → Option Told → (History → Type 0) → Type 0
AppendsRun setting None new P = new ≡ None
AppendsRun setting (Some old) new P = (more : History) × (new ≡ Some (told_after setting setting old more more)) × IsRun setting more × P more
