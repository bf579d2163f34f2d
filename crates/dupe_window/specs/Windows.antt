-- The packets of the last seconds, by their keys.
use Rattle.std.specs.Prelude.{ℕ, ◌-◌, Bool, nat_le, nat_lt, IsTrue, List, [], ◌∷◌, ◌++◌, filter, Option, Some, None, is_some, if◌then◌else◌}
use Rattle.std.specs.List.{IsDistinct, list_all}
use Rattle.std.specs.List.Sorted.{IsNonDecreasingBy}
use Rattle.std.specs.Map.{keys_of, lookup}
use Rattle.aprs_base.specs.declared.packets.Parts.{Parts}
use Rattle.dupe_window.specs.Keys.{Key, is_same_key, key_of}

-- keys with their moments, in the order in which they came, and for how many seconds a packet counts
pub record WindowSeen : Type 0 where
  pub pairs : List (Key × ℕ)
  pub seconds : ℕ

abbrev pub empty_window : ℕ → WindowSeen
empty_window seconds = record { pairs = []; seconds = seconds }

-- that moment was less than so many seconds ago
abbrev pub is_inside : ℕ → ℕ → ℕ → Bool
is_inside seconds now moment = nat_lt (now - moment) seconds

abbrev pub moment_in : Key × ℕ → ℕ
moment_in pair = pair.1

abbrev pub is_inside_pair : ℕ → ℕ → Key × ℕ → Bool
is_inside_pair seconds now pair = is_inside seconds now pair.1

-- the moment that is kept with a key
abbrev pub kept_at : WindowSeen → Key → Option ℕ
kept_at window key = lookup (is_same_key key) window.pairs

abbrev pub if_inside : ℕ → ℕ → Option ℕ → Option ℕ
if_inside seconds now None = None
if_inside seconds now (Some moment) = if is_inside seconds now moment then Some moment else None

-- the moment that is kept with a key, where it is inside the window
abbrev pub seen_at : ℕ → Key → WindowSeen → Option ℕ
seen_at now key window = if_inside window.seconds now (kept_at window key)

abbrev pub with_key : Key → ℕ → WindowSeen → WindowSeen
with_key key now window = record window { pairs = window.pairs ++ (key, now) ∷ [] }

-- with a key that is not seen in the window
abbrev pub with_new : Key → ℕ → WindowSeen → WindowSeen
with_new key now window = if is_some (seen_at now key window) then window else with_key key now window

-- without what is no more inside
abbrev pub expired : ℕ → WindowSeen → WindowSeen
expired now window = record window { pairs = filter (is_inside_pair window.seconds now) window.pairs }

abbrev pub is_up_to : ℕ → Key × ℕ → Bool
is_up_to now pair = nat_le pair.1 now

-- no moment is above this one
abbrev pub IsUpTo : ℕ → WindowSeen → Type 0
IsUpTo now window = IsTrue (list_all (is_up_to now) window.pairs)

-- each moment is that of the one before it, or a later one
abbrev pub IsRising : List (Key × ℕ) → Type 0
IsRising pairs = IsNonDecreasingBy (λ pair. pair.1) pairs

-- each key once
abbrev pub IsOnce : List (Key × ℕ) → Type 0
IsOnce pairs = IsDistinct is_same_key (keys_of pairs)

-- each key once, in the order in which they came
abbrev pub IsInOrder : List (Key × ℕ) → Type 0
IsInOrder pairs = IsOnce pairs × IsRising pairs

-- what is kept in two parts: of the older pairs those that are inside at this moment, and then all of the late ones
abbrev pub kept_pairs : ℕ → ℕ → List (Key × ℕ) → List (Key × ℕ) → List (Key × ℕ)
kept_pairs seconds last older late = filter (is_inside_pair seconds last) older ++ late

-- none is past
abbrev pub AreInside : ℕ → WindowSeen → Type 0
AreInside now window = IsTrue (list_all (is_inside_pair window.seconds now) window.pairs)

-- a packet is a copy of one whose key is kept inside the window
abbrev pub has_copy : ℕ → WindowSeen → Parts → Bool
has_copy now window parts = is_some (seen_at now (key_of parts) window)
