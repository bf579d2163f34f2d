-- A position as its own bytes write it, and the place that it is with the mark after it.
use Rattle.std.specs.Prelude.{ℕ, ◌+◌, ◌*◌, ◌/◌, ◌<◌, ℤ, pos, neg_ℤ, Bool, if◌then◌else◌}
use Rattle.std.specs.declared.option.Option.{Option}
use Rattle.std.specs.Option.{option_and_then, option_or}
use Rattle.aprs_base.specs.declared.packets.Place.{Place}
use Rattle.aprs_position.specs.Marks.{unmarked}
use Rattle.aprs_position.specs.Places.{place_at}
use Rattle.aprs_position.specs.declared.marks.Mark.{Mark}
use Rattle.aprs_position.specs.declared.written.Angle.{Angle}
use Rattle.aprs_position.specs.declared.written.Written.{Written}

-- whole degrees, hundredths of minutes and parts of which 910 make one, in millionths of a degree: the division is whole
abbrev pub millionths : (degrees hundredths parts : ℕ) → ℕ
millionths degrees hundredths parts = degrees * 1000000 + (hundredths * 910 + parts) * 1000000 / 5460000

-- north and east are positive
abbrev pub signed : (positive : Bool) → ℕ → ℤ
signed positive n = if positive then pos n else neg_ℤ (pos n)

abbrev pub value_of : Angle → (parts : ℕ) → ℤ
value_of angle parts = signed angle.positive (millionths angle.degrees angle.hundredths parts)

-- the angles that can be written
abbrev pub IsAngle : Angle → Type 0
IsAngle angle = (angle.degrees < 1000) × (angle.hundredths < 6000)

-- what is written, with what a mark adds to both numbers: none off the globe
unfoldable pub place_with : Written → Mark → Option Place
place_with written mark = place_at (value_of written.lat mark.lat) (value_of written.lon mark.lon) written.table written.code written.used

-- with the mark, or without it where there is none, or where it leads off the globe
unfoldable pub finest : Written → Option Mark → Option Place
finest written mark = option_or (option_and_then (place_with written) mark) (place_with written unmarked)
