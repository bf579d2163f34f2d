-- The compressed form of a position, `/YYYYXXXX$csT` (APRS Protocol Reference 1.0.1, Compressed Position Report Data Formats).
use Rattle.std.specs.Prelude.{ℕ, ◌+◌, ◌-◌, ◌*◌, ◌/◌, ◌&&◌, ◌-ℤ◌, pos, Bool, not, nat_le, nat_lt, List, [], ◌∷◌, length, slice_index, slice_range, Some, None, if◌then◌else◌}
use Rattle.std.specs.Char.{is_ascii_digit}
use Rattle.std.specs.List.{fold, list_all}
use Rattle.std.specs.Str.{byte}
use Rattle.std.specs.declared.option.Option.{Option}
use Rattle.aprs_base.specs.declared.packets.Place.{Place}
use Rattle.aprs_position.specs.Places.{is_code, is_table, place_at}
use Rattle.aprs_base.specs.OptionSteps.{◌>>=◌}

-- the bytes 33 to 123 are the digits 0 to 90 to base 91
abbrev pub is_base91 : ℕ → Bool
is_base91 b = nat_le (byte "!") b && nat_le b (byte "{")

-- a number to base 91, its highest digit first
abbrev pub base91 : List ℕ → ℕ
base91 text = fold (λ n b. n * 91 + (b - byte "!")) 0 text

-- four such digits, up to 180 times 380926, which is 360 times 190463
abbrev pub scaled_of : List ℕ → Option ℕ
scaled_of (a ∷ b ∷ c ∷ d ∷ []) =
    if list_all is_base91 (a ∷ b ∷ c ∷ d ∷ []) && nat_le (base91 (a ∷ b ∷ c ∷ d ∷ [])) 68566680 then Some (base91 (a ∷ b ∷ c ∷ d ∷ [])) else None
scaled_of _ = None

-- the table that a byte names: an overlay digit `0` to `9` is written `a` to `j`
abbrev pub table_of : ℕ → Option ℕ
table_of b = if nat_le (byte "a") b && nat_le b (byte "j") then Some (b - byte "a" + byte "0") else if is_table b && not (is_ascii_digit b) then Some b else None

-- the place that a text begins with, in the compressed form (Compressed Position Report Data Formats)
unfoldable pub compressed_place : List ℕ → Option Place
compressed_place text = if nat_lt (length text) 13 then None else do
  table ← table_of (slice_index text 0)
  south ← scaled_of (slice_range text 1 5)
  east ← scaled_of (slice_range text 5 9)
  if is_code (slice_index text 9) then place_at (pos 90000000 -ℤ pos (south * 1000000 / 380926)) (pos (east * 1000000 / 190463) -ℤ pos 180000000) table (slice_index text 9) 13 else None
