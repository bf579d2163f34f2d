-- The plain form of a position, `DDMM.hhN/DDDMM.hhW$` (APRS Protocol Reference 1.0.1, Lat/Long Format, Position Ambiguity).
use Rattle.std.specs.Prelude.{ℕ, ◌+◌, ◌-◌, ◌*◌, ◌==◌, ◌&&◌, Bool, true, false, nat_lt, List, [], ◌∷◌, ◌++◌, length, drop, slice_index, slice_range, Some, None, if◌then◌else◌}
use Rattle.std.specs.Char.{is_ascii_digit}
use Rattle.std.specs.List.{fold, list_all}
use Rattle.std.specs.declared.option.Option.{Option}
use Rattle.std.specs.Str.{byte}
use Rattle.aprs_base.specs.Bytes.{is_blank}
use Rattle.aprs_base.specs.declared.packets.Place.{Place}
use Rattle.aprs_position.specs.Marks.{mark_in}
use Rattle.aprs_position.specs.Places.{is_code, is_table}
use Rattle.aprs_position.specs.Written.{finest}
use Rattle.aprs_position.specs.declared.marks.Mark.{Mark}
use Rattle.aprs_position.specs.declared.written.Angle.{Angle}
use Rattle.aprs_position.specs.declared.written.Written.{Written}
use Rattle.aprs_base.specs.OptionSteps.{◌>>=◌}

-- what a digit counts, and a blank counts as 0
abbrev pub digit_value : ℕ → ℕ
digit_value b = if is_ascii_digit b then b - byte "0" else 0

-- a decimal number, its highest digit first
abbrev pub number : List ℕ → ℕ
number digits = fold (λ n b. n * 10 + digit_value b) 0 digits

-- digits, of which the last ones may be blank (Position Ambiguity)
abbrev pub ends_in_blanks : List ℕ → Bool
ends_in_blanks [] = true
ends_in_blanks (b ∷ bs) = if is_ascii_digit b then ends_in_blanks bs else list_all is_blank (b ∷ bs)

-- minutes and their hundredths, `MM.hh`, as a number of hundredths: the minutes are below 60
abbrev pub hundredths_of : List ℕ → Option ℕ
hundredths_of (m ∷ n ∷ point ∷ h ∷ i ∷ []) =
    if point == byte "." && ends_in_blanks (m ∷ n ∷ h ∷ i ∷ []) && nat_lt (number (m ∷ n ∷ [])) 60 then Some (number (m ∷ n ∷ h ∷ i ∷ [])) else None
hundredths_of _ = None

-- a number of digits alone
abbrev pub whole_of : List ℕ → Option ℕ
whole_of digits = if list_all is_ascii_digit digits then Some (number digits) else None

-- two digits of latitude, or three of longitude (Lat/Long Format)
abbrev pub degrees_of : List ℕ → Option ℕ
degrees_of (t ∷ o ∷ []) = whole_of (t ∷ o ∷ [])
degrees_of (h ∷ t ∷ o ∷ []) = whole_of (h ∷ t ∷ o ∷ [])
degrees_of _ = None

-- degrees and then minutes, to one side
abbrev pub angle_of : (positive : Bool) → (degrees minutes : List ℕ) → Option Angle
angle_of positive degrees minutes = do
  d ← degrees_of degrees
  h ← hundredths_of minutes
  Some (record { positive = positive; degrees = d; hundredths = h })

-- whether a letter names the positive side or the other one
abbrev pub side_of : (plus minus letter : ℕ) → Option Bool
side_of plus minus letter = if letter == plus then Some true else if letter == minus then Some false else None

-- what nineteen bytes write (Lat/Long Format)
unfoldable pub written_of : List ℕ → Option Written
written_of text = do
  north ← side_of (byte "N") (byte "S") (slice_index text 7)
  lat ← angle_of north (slice_range text 0 2) (slice_range text 2 7)
  east ← side_of (byte "E") (byte "W") (slice_index text 17)
  lon ← angle_of east (slice_range text 9 12) (slice_range text 12 17)
  if is_table (slice_index text 8) && is_code (slice_index text 18)
      then Some (record { lat = lat; lon = lon; table = slice_index text 8; code = slice_index text 18; used = 19 }) else None

-- whether each digit of `DDMM.hhN/DDDMM.hhW` from the minutes on is given, none left blank
abbrev pub is_exact : List ℕ → Bool
is_exact text = list_all is_ascii_digit (slice_range text 2 4 ++ (slice_range text 5 7 ++ (slice_range text 12 14 ++ slice_range text 15 17)))

-- the mark that makes the numbers finer
unfoldable pub mark_after : List ℕ → Option Mark
mark_after text = if is_exact text then mark_in (drop 19 text) else None

-- the place that a text begins with, in the plain form
unfoldable pub plain_place : List ℕ → Option Place
plain_place text = if nat_lt (length text) 19 then None else written_of text >>= λ written. finest written (mark_after text)
