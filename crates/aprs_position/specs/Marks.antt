-- Fine marks, the field's `!DAO!` (APRS 1.2, a profile of it): more digits of both numbers, in the bytes after a position.
use Rattle.std.specs.Prelude.{ℕ, ◌-◌, ◌*◌, ◌<◌, ◌==◌, ◌&&◌, if◌then◌else◌, List, [], ◌∷◌, Some, None}
use Rattle.std.specs.Char.{is_ascii_digit}
use Rattle.std.specs.declared.option.Option.{Option}
use Rattle.std.specs.Option.{option_or}
use Rattle.std.specs.Str.{byte}
use Rattle.aprs_position.specs.Compressed.{is_base91}
use Rattle.aprs_position.specs.declared.marks.Mark.{Mark}

-- what stands between the two `!`: tenths of a hundredth of a minute after `W`, ninety-firsts of one after `w`; a mark counts 910 parts in one
abbrev pub mark_with : (letter lat lon : ℕ) → Option Mark
mark_with letter lat lon =
    if letter == byte "W" && is_ascii_digit lat && is_ascii_digit lon then Some (record { lat = (lat - byte "0") * 91; lon = (lon - byte "0") * 91 }) else
    if letter == byte "w" && is_base91 lat && is_base91 lon then Some (record { lat = (lat - byte "!") * 10; lon = (lon - byte "!") * 10 }) else None

-- the mark that a text begins with
abbrev pub mark_at : List ℕ → Option Mark
mark_at (first ∷ letter ∷ lat ∷ lon ∷ last ∷ more) = if first == byte "!" && last == byte "!" then mark_with letter lat lon else None
mark_at _ = None

-- the leftmost mark of a text
abbrev pub mark_in : List ℕ → Option Mark
mark_in [] = None
mark_in (b ∷ more) = option_or (mark_at (b ∷ more)) (mark_in more)

-- what a mark adds is less than a hundredth of a minute
abbrev pub IsPart : Mark → Type 0
IsPart mark = (mark.lat < 910) × (mark.lon < 910)

-- what no mark adds
abbrev pub unmarked : Mark
unmarked = record { lat = 0; lon = 0 }
