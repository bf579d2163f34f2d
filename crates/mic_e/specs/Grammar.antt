-- The form as a grammar: which destinations and bodies write which place, apart from how they are read
-- (APRS Protocol Reference 1.0.1, Mic-E Data Format).
use Rattle.std.specs.Prelude.{◌≡◌, ℕ, ◌+◌, ◌*◌, ◌<◌, ◌≤◌, ◌⊎◌, Bool, true, false, not, List, [], ◌∷◌, IsTrue, if◌then◌else◌}
use Rattle.std.specs.List.{list_any}
use Rattle.std.specs.Str.{byte}
use Rattle.aprs_base.specs.Bytes.{base_of}
use Rattle.aprs_base.specs.declared.packets.Place.{Place}
use Rattle.aprs_position.specs.MarkGrammar.{IsPlaceOf}
use Rattle.aprs_position.specs.Places.{is_code, is_table}
use Rattle.mic_e.specs.MicE.{is_blank_letter}

-- what a byte of the destination says: a digit, where a blank counts as 0; whether the byte is for the first three places alone; its bit
pub data Says (sent digit : ℕ) (early set : Bool) : Type 0 where
  figure : digit < 10 → sent ≡ digit + byte "0" → early ≡ false → set ≡ false → Says sent digit early set
  custom_letter : digit < 10 → sent ≡ digit + byte "A" → early ≡ true → set ≡ false → Says sent digit early set
  standard_letter : digit < 10 → sent ≡ digit + byte "P" → early ≡ false → set ≡ true → Says sent digit early set
  custom_blank : sent ≡ byte "K" → digit ≡ 0 → early ≡ true → set ≡ false → Says sent digit early set
  plain_blank : sent ≡ byte "L" → digit ≡ 0 → early ≡ false → set ≡ false → Says sent digit early set
  standard_blank : sent ≡ byte "Z" → digit ≡ 0 → early ≡ false → set ≡ true → Says sent digit early set

-- at one of the first three places, and at one of the last three
abbrev pub SaysEarly : (sent digit : ℕ) → Type 0
SaysEarly sent digit = (early set : Bool) × Says sent digit early set

abbrev pub SaysLate : (sent digit : ℕ) → Bool → Type 0
SaysLate sent digit set = Says sent digit false set

-- 180 to 189 stand for 100 to 109, and 190 to 199 for 0 to 9
abbrev pub IsDegrees : (sent degrees : ℕ) → Type 0
IsDegrees sent degrees = ((sent < 180) × (degrees ≡ sent)) ⊎ ((180 ≤ sent) × (sent < 190) × (degrees + 80 ≡ sent)) ⊎ ((190 ≤ sent) × (degrees + 190 ≡ sent))

-- 60 and more stand for 0 and more
abbrev pub IsMinutes : (sent minutes : ℕ) → Type 0
IsMinutes sent minutes = ((sent < 60) × (minutes ≡ sent)) ⊎ ((60 ≤ sent) × (minutes + 60 ≡ sent))

-- the base of a destination, and a body
pub record WritesMicE (base body : List ℕ) (place : Place) : Type 0 where
  -- six bytes of the base: degrees, minutes and hundredths of latitude, and the bits for north, a hundred degrees more, and west
  pub a : ℕ
  pub b : ℕ
  pub c : ℕ
  pub d : ℕ
  pub e : ℕ
  pub f : ℕ
  pub base_is : base ≡ a ∷ b ∷ c ∷ d ∷ e ∷ f ∷ []
  pub tens_of_degrees : ℕ
  pub degrees : ℕ
  pub tens : ℕ
  pub minutes : ℕ
  pub tenths : ℕ
  pub hundredths : ℕ
  pub north : Bool
  pub hundred : Bool
  pub west : Bool
  pub a_says : SaysEarly a tens_of_degrees
  pub b_says : SaysEarly b degrees
  pub c_says : SaysEarly c tens
  pub d_says : SaysLate d minutes north
  pub e_says : SaysLate e tenths hundred
  pub f_says : SaysLate f hundredths west
  pub below : tens * 10 + minutes < 60
  -- nine bytes of the body and what follows: the mark, three bytes of longitude, three of any value, and the symbol
  pub mark : ℕ
  pub x : ℕ
  pub y : ℕ
  pub z : ℕ
  pub s : ℕ
  pub t : ℕ
  pub u : ℕ
  pub rest : List ℕ
  pub body_is : body ≡ mark ∷ (x + 28) ∷ (y + 28) ∷ (z + 28) ∷ s ∷ t ∷ u ∷ place.code ∷ place.table ∷ rest
  pub mark_is : (mark ≡ byte "`") ⊎ (mark ≡ byte "'")
  pub sent : (x < 100) × (y < 100) × (z < 100)
  pub degrees_east : ℕ
  pub minutes_east : ℕ
  pub degrees_are : IsDegrees (x + (if hundred then 100 else 0)) degrees_east
  pub minutes_are : IsMinutes y minutes_east
  pub table : IsTrue (is_table place.table)
  pub code : IsTrue (is_code place.code)
  -- the place, which a mark may make finer where none of the four bytes of minutes and hundredths is a blank
  pub placed : IsPlaceOf (not (list_any is_blank_letter (c ∷ d ∷ e ∷ f ∷ []))) (record {
    lat = record { positive = north; degrees = tens_of_degrees * 10 + degrees; hundredths = (tens * 10 + minutes) * 100 + (tenths * 10 + hundredths) };
    lon = record { positive = not west; degrees = degrees_east; hundredths = minutes_east * 100 + z };
    table = place.table;
    code = place.code;
    used = 9;
  }) rest place

abbrev pub IsMicE : (dest body : List ℕ) → Place → Type 0
IsMicE dest body place = WritesMicE (base_of dest) body place
