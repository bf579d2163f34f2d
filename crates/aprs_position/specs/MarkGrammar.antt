-- Fine marks as a grammar: which bytes write which mark, and which place a position is with the bytes after it.
use Rattle.std.specs.Prelude.{◌≡◌, ℕ, ◌+◌, ◌*◌, ◌<◌, ◌≤◌, Bool, List, [], ◌∷◌, ◌++◌, length, IsTrue}
use Rattle.std.specs.Str.{byte}
use Rattle.aprs_base.specs.declared.packets.Place.{Place}
use Rattle.aprs_position.specs.Marks.{unmarked}
use Rattle.aprs_position.specs.Places.{OnGlobe}
use Rattle.aprs_position.specs.Written.{value_of}
use Rattle.aprs_position.specs.declared.marks.Mark.{Mark}
use Rattle.aprs_position.specs.declared.written.Written.{Written}

-- `!W52!`, tenths of a hundredth of a minute as digits, or `!wN!!`, ninety-firsts, each 33 above its number; a mark counts 910 parts
pub data WritesMark (five : List ℕ) (mark : Mark) : Type 0 where
  tenths : (a o : ℕ) → a < 10 → o < 10 → five ≡ byte "!" ∷ byte "W" ∷ (a + byte "0") ∷ (o + byte "0") ∷ byte "!" ∷ [] → mark ≡ record { lat = a * 91; lon = o * 91 } → WritesMark five mark
  ninety_firsts : (a o : ℕ) → a < 91 → o < 91 → five ≡ byte "!" ∷ byte "w" ∷ (a + byte "!") ∷ (o + byte "!") ∷ byte "!" ∷ [] → mark ≡ record { lat = a * 10; lon = o * 10 } → WritesMark five mark

-- the mark stands in the text, and none begins before it
pub record Leftmost (text : List ℕ) (mark : Mark) : Type 0 where
  pub before : List ℕ
  pub five : List ℕ
  pub after : List ℕ
  pub spelled : text ≡ before ++ (five ++ after)
  pub written : WritesMark five mark
  pub first : (front other rest : List ℕ) (m : Mark) → text ≡ front ++ (other ++ rest) → WritesMark other m → length before ≤ length front

-- both numbers stay on the globe
abbrev pub Fits : Written → Mark → Type 0
Fits written mark = OnGlobe (value_of written.lat mark.lat) (value_of written.lon mark.lon)

-- the mark that counts: the leftmost of the text, where no digit is blank and it fits, and else none
pub data Counts (exact : Bool) (written : Written) (rest : List ℕ) (mark : Mark) : Type 0 where
  finer : IsTrue exact → Leftmost rest mark → Fits written mark → Counts exact written rest mark
  coarse : (IsTrue exact → (other : Mark) → Leftmost rest other → ¬ Fits written other) → mark ≡ unmarked → Counts exact written rest mark

-- the place of what is written, with the text after it
pub record IsPlaceOf (exact : Bool) (written : Written) (rest : List ℕ) (place : Place) : Type 0 where
  pub mark : Mark
  pub counts : Counts exact written rest mark
  pub lat : place.lat ≡ value_of written.lat mark.lat
  pub lon : place.lon ≡ value_of written.lon mark.lon
  pub table : place.table ≡ written.table
  pub code : place.code ≡ written.code
  pub used : place.used ≡ written.used
