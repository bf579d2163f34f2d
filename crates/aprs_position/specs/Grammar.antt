-- The two forms of a position as grammars: which texts write which place, apart from how they are read
-- (APRS Protocol Reference 1.0.1, Lat/Long Format, Position Ambiguity, Compressed Position Report Data Formats).
use Rattle.std.specs.Prelude.{◌≡◌, ℕ, ◌+◌, ◌-◌, ◌*◌, ◌/◌, ◌<◌, ◌≤◌, ◌⊎◌, pos, ◌-ℤ◌, Bool, List, [], ◌∷◌, ◌++◌, length, IsTrue, IsFalse}
use Rattle.std.specs.Char.{is_ascii_digit}
use Rattle.std.specs.List.{list_all}
use Rattle.std.specs.Str.{byte}
use Rattle.aprs_base.specs.Bytes.{is_blank}
use Rattle.aprs_base.specs.declared.packets.Place.{Place}
use Rattle.aprs_position.specs.MarkGrammar.{IsPlaceOf}
use Rattle.aprs_position.specs.Places.{is_code, is_table}
use Rattle.aprs_position.specs.Plain.{number}
use Rattle.aprs_position.specs.declared.written.Angle.{Angle}
use Rattle.aprs_position.specs.declared.written.Written.{Written}

-- the text begins with a front in the form, whose place may hang on the rest, and the place says how long the front is
pub record Begins (form : (front rest : List ℕ) → Place → Type 0) (text : List ℕ) (place : Place) : Type 0 where
  pub front : List ℕ
  pub rest : List ℕ
  pub split : text ≡ front ++ rest
  pub form_of : form front rest place
  pub used : place.used ≡ length front

-- `DDMM.hh` or `DDDMM.hh`: the last of the digits MMhh may be blank, which counts as 0, and the minutes are below 60
pub record WritesAngle (count : ℕ) (text : List ℕ) (angle : Angle) : Type 0 where
  pub degrees : List ℕ
  pub minutes : List ℕ
  pub hundredths : List ℕ
  pub shown : List ℕ
  pub blanks : List ℕ
  pub spelled : text ≡ degrees ++ (minutes ++ (byte "." ∷ hundredths))
  pub lengths : (length degrees ≡ count) × (length minutes ≡ 2) × (length hundredths ≡ 2)
  pub whole : IsTrue (list_all is_ascii_digit degrees)
  pub ambiguity : minutes ++ hundredths ≡ shown ++ blanks
  pub digits : IsTrue (list_all is_ascii_digit shown)
  pub blank : IsTrue (list_all is_blank blanks)
  pub below : number minutes < 60
  pub value : (angle.degrees ≡ number degrees) × (angle.hundredths ≡ number minutes * 100 + number hundredths)

-- the letter of the positive side, or that of the negative one
abbrev pub IsSide : (plus minus letter : ℕ) (positive : Bool) → Type 0
IsSide plus minus letter positive = ((letter ≡ plus) × IsTrue positive) ⊎ ((letter ≡ minus) × IsFalse positive)

-- `DDMM.hhN/DDDMM.hhW$`, and the text after it
pub record IsPlain (text rest : List ℕ) (place : Place) : Type 0 where
  pub latitude : List ℕ
  pub longitude : List ℕ
  pub north : ℕ
  pub east : ℕ
  pub written : Written
  pub spelled : text ≡ latitude ++ (north ∷ place.table ∷ (longitude ++ (east ∷ place.code ∷ [])))
  pub latitude_angle : WritesAngle 2 latitude written.lat
  pub longitude_angle : WritesAngle 3 longitude written.lon
  pub lat : IsSide (byte "N") (byte "S") north written.lat.positive
  pub lon : IsSide (byte "E") (byte "W") east written.lon.positive
  pub table : IsTrue (is_table place.table)
  pub code : IsTrue (is_code place.code)
  pub placed : IsPlaceOf (list_all is_ascii_digit (latitude_angle.minutes ++ (latitude_angle.hundredths ++ (longitude_angle.minutes ++ longitude_angle.hundredths)))) written rest place

-- four digits to base 91, the highest first, each written 33 above itself; their number is at most 180 times 380926
pub record WritesScaled (text : List ℕ) (units : ℕ) : Type 0 where
  pub a : ℕ
  pub b : ℕ
  pub c : ℕ
  pub d : ℕ
  pub below : (a < 91) × (b < 91) × (c < 91) × (d < 91)
  pub spelled : text ≡ (a + byte "!") ∷ (b + byte "!") ∷ (c + byte "!") ∷ (d + byte "!") ∷ []
  pub value : units ≡ a * 753571 + b * 8281 + c * 91 + d
  pub within : units ≤ 68566680

-- a table but a digit is written as itself, and a digit as a letter `a` to `j`
abbrev pub NamesTable : (sent table : ℕ) → Type 0
NamesTable sent table = (IsTrue (is_ascii_digit table) × (sent ≡ table + (byte "a" - byte "0"))) ⊎ (IsFalse (is_ascii_digit table) × IsTrue (is_table table) × (sent ≡ table))

-- `/YYYYXXXX$csT`, the last three of any value; no text after it makes it finer
pub record IsCompressed (text : List ℕ) (place : Place) : Type 0 where
  pub overlay : ℕ
  pub y : List ℕ
  pub x : List ℕ
  pub course : List ℕ
  pub south : ℕ
  pub east : ℕ
  pub spelled : text ≡ overlay ∷ (y ++ (x ++ (place.code ∷ course)))
  pub three : length course ≡ 3
  pub table : NamesTable overlay place.table
  pub from_pole : WritesScaled y south
  pub from_date_line : WritesScaled x east
  pub lat : place.lat ≡ pos 90000000 -ℤ pos (south * 1000000 / 380926)
  pub lon : place.lon ≡ pos (east * 1000000 / 190463) -ℤ pos 180000000
  pub code : IsTrue (is_code place.code)

abbrev pub BeginsPlain : List ℕ → Place → Type 0
BeginsPlain = Begins IsPlain

abbrev pub BeginsCompressed : List ℕ → Place → Type 0
BeginsCompressed = Begins (λ front rest. IsCompressed front)

-- either form
abbrev pub BeginsPosition : List ℕ → Place → Type 0
BeginsPosition text place = BeginsPlain text place ⊎ BeginsCompressed text place
