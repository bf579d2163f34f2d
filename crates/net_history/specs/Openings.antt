-- The openings of links at listeners, and the listeners to which clients connect.
use Rattle.std.specs.Prelude.{◌≡◌, ℕ, Bool, false, [], ◌∷◌, Option, Some, None, ◌⊎◌}
use Rattle.aprs_base.specs.declared.events.Event.{Event}
use Rattle.aprs_base.specs.declared.events.Event.TheVariants as event
use Rattle.aprs_base.specs.declared.events.Happening.TheVariants as did
use Rattle.aprs_base.specs.declared.packets.PortKind.{PortKind}
use Rattle.aprs_history.specs.Setting.{Setting, is_client_kind, kind_at}
use Rattle.aprs_history.specs.History.{History}

-- it opens that link at that listener
abbrev pub IsOpening : ℕ → ℕ → Event → Type 0
IsOpening listener link (event.Opened at opened from) = (at ≡ listener) × (opened ≡ link)
IsOpening listener link e = ⊥

-- such an event came
abbrev pub WasOpened : ℕ → ℕ → History → Type 0
WasOpened listener link [] = ⊥
WasOpened listener link (did.Event e ∷ earlier) = IsOpening listener link e ⊎ WasOpened listener link earlier
WasOpened listener link (x ∷ earlier) = WasOpened listener link earlier

-- there is such a listener, and it is of a kind to which clients connect
abbrev pub serves_clients : Option PortKind → Bool
serves_clients None = false
serves_clients (Some kind) = is_client_kind kind

-- clients connect to that listener
abbrev pub is_heard : Setting → ℕ → Bool
is_heard setting listener = serves_clients (kind_at setting listener)
