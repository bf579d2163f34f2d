-- A position whose latitude stands in the destination (APRS Protocol Reference 1.0.1, Mic-E Data Format).
use Rattle.std.specs.Prelude.{ℕ, ◌+◌, ◌-◌, ◌*◌, ◌==◌, ◌&&◌, ◌||◌, Bool, not, nat_lt, nat_le, List, [], ◌∷◌, length, drop, slice_index, slice_range, Some, None, if◌then◌else◌}
use Rattle.std.specs.List.{list_all, list_any}
use Rattle.std.specs.declared.option.Option.{Option}
use Rattle.std.specs.Option.{option_map}
use Rattle.std.specs.Str.{byte}
use Rattle.aprs_base.specs.Bytes.{base_of}
use Rattle.aprs_base.specs.declared.packets.Place.{Place}
use Rattle.aprs_base.specs.OptionSteps.{◌>>=◌}
use Rattle.aprs_position.specs.Marks.{mark_in}
use Rattle.aprs_position.specs.Places.{is_code, is_table}
use Rattle.aprs_position.specs.Written.{finest}
use Rattle.aprs_position.specs.declared.marks.Mark.{Mark}
use Rattle.aprs_position.specs.declared.written.Angle.{Angle}
use Rattle.aprs_position.specs.declared.written.Written.{Written}

-- a byte from the lowest to the highest
abbrev pub between : (low high : ℕ) → ℕ → Bool
between low high b = nat_le low b && nat_le b high

-- the letters that stand for a blank
abbrev pub is_blank_letter : ℕ → Bool
is_blank_letter b = b == byte "K" || b == byte "L" || b == byte "Z"

-- the digit that a byte of the destination stands for (Mic-E Destination Field Encoding); a blank counts as 0
unfoldable pub digit_of : ℕ → Option ℕ
digit_of b =
    if between (byte "0") (byte "9") b then Some (b - byte "0") else
    if between (byte "A") (byte "J") b then Some (b - byte "A") else
    if between (byte "P") (byte "Y") b then Some (b - byte "P") else
    if is_blank_letter b then Some 0 else None

-- A to K stand at the first three places alone
abbrev pub is_custom : ℕ → Bool
is_custom b = between (byte "A") (byte "K") b

-- the digit at one of the last three places
unfoldable pub late_digit_of : ℕ → Option ℕ
late_digit_of b = if is_custom b then None else digit_of b

-- P to Z set their place's bit
abbrev pub is_set : ℕ → Bool
is_set b = between (byte "P") (byte "Z") b

-- a number of two digits
unfoldable pub pair : (tens ones : Option ℕ) → Option ℕ
pair tens ones = tens >>= λ t. option_map (λ o. t * 10 + o) ones

-- six bytes, degrees, minutes below 60, and their hundredths: how far from the equator, north where the fourth sets its bit
unfoldable pub from_equator : List ℕ → Option Angle
from_equator (a ∷ b ∷ c ∷ d ∷ e ∷ f ∷ []) = do
  degrees ← pair (digit_of a) (digit_of b)
  minutes ← pair (digit_of c) (late_digit_of d)
  hundredths ← pair (late_digit_of e) (late_digit_of f)
  if nat_lt minutes 60 then Some (record { positive = is_set d; degrees = degrees; hundredths = minutes * 100 + hundredths }) else None
from_equator _ = None

-- the degrees of longitude that are sent (Mic-E Information Field, Longitude): 180 to 189 stand for 100 to 109, and 190 to 199 for 0 to 9
abbrev pub degrees_of : ℕ → ℕ
degrees_of d = if between 180 189 d then d - 80 else if between 190 199 d then d - 190 else d

-- the minutes that are sent: 60 and more stand for 0 and more
abbrev pub minutes_of : ℕ → ℕ
minutes_of m = if nat_lt m 60 then m else m - 60

-- three bytes, degrees, minutes and their hundredths, each 28 above its number: how far from Greenwich
unfoldable pub from_greenwich : (positive : Bool) (more : ℕ) → List ℕ → Option Angle
from_greenwich positive more (x ∷ y ∷ z ∷ []) =
    if list_all (between 28 127) (x ∷ y ∷ z ∷ [])
    then Some (record { positive = positive; degrees = degrees_of (x - 28 + more); hundredths = minutes_of (y - 28) * 100 + (z - 28) }) else None
from_greenwich positive more _ = None

-- the first byte of such a body
abbrev pub is_mark : ℕ → Bool
is_mark b = b == byte "`" || b == byte "'"

-- a bit of the base
abbrev pub bit : List ℕ → ℕ → Bool
bit base place = is_set (slice_index base place)

-- what a destination's base and a body write: the last three bits say north, a hundred degrees more, and west
unfoldable pub written_of : (base body : List ℕ) → Option Written
written_of base body = do
  lat ← from_equator base
  lon ← from_greenwich (not (bit base 5)) (if bit base 4 then 100 else 0) (slice_range body 1 4)
  if is_code (slice_index body 7) && is_table (slice_index body 8)
      then Some (record { lat = lat; lon = lon; table = slice_index body 8; code = slice_index body 7; used = 9 }) else None

-- whether none of the base's digits of minutes and hundredths is blank
abbrev pub is_exact : List ℕ → Bool
is_exact base = not (list_any is_blank_letter (slice_range base 2 6))

-- the mark that makes the numbers finer
unfoldable pub mark_after : (base body : List ℕ) → Option Mark
mark_after base body = if is_exact base then mark_in (drop 9 body) else None

-- the place of a destination's base and a body
unfoldable pub place_of : (base body : List ℕ) → Option Place
place_of base body = if nat_lt (length body) 9 || not (is_mark (slice_index body 0)) then None else
    written_of base body >>= λ written. finest written (mark_after base body)

-- the place of a packet's destination and body
abbrev pub mic_e_place : (dest body : List ℕ) → Option Place
mic_e_place dest body = place_of (base_of dest) body
