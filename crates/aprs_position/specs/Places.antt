-- Places on the globe, and the bytes that stand for their symbols.
use Rattle.std.specs.Prelude.{ℕ, ℤ, pos, negsuc, Bool, true, false, T, int_le, nat_le, ◌==◌, ◌||◌, ◌&&◌, ◌≤ℤ◌, Some, None}
use Rattle.std.specs.Char.{is_ascii_digit}
use Rattle.std.specs.Str.{byte}
use Rattle.std.specs.declared.option.Option.{Option}
use Rattle.aprs_base.specs.declared.packets.Place.{Place}

-- a symbol's table (APRS Protocol Reference 1.0.1, Symbols): `/`, `\`, or an overlay, a digit or a capital letter
abbrev pub is_table : ℕ → Bool
is_table b = b == byte "/" || b == byte "\\" || is_ascii_digit b || (nat_le (byte "A") b && nat_le b (byte "Z"))

-- a symbol's code: any printable byte but the blank
abbrev pub is_code : ℕ → Bool
is_code b = nat_le (byte "!") b && nat_le b (byte "~")

-- a value that stands only where a test holds
abbrev pub given : {A : Type 0} (test : Bool) → (T test → Option A) → Option A
given true value = value tt
given false value = None

-- a latitude and a longitude, north and east positive, in millionths of a degree
abbrev pub OnGlobe : ℤ → ℤ → Type 0
OnGlobe lat lon = (negsuc 89999999 ≤ℤ lat) × (lat ≤ℤ pos 90000000) × (negsuc 179999999 ≤ℤ lon) × (lon ≤ℤ pos 180000000)

-- the place of these numbers, where they are on the globe: within 90 degrees of the equator and 180 of Greenwich
abbrev pub place_at : (lat lon : ℤ) (table code used : ℕ) → Option Place
place_at lat lon table code used =
    given (int_le (negsuc 89999999) lat) (λ south.
    given (int_le lat (pos 90000000)) (λ north.
    given (int_le (negsuc 179999999) lon) (λ west.
    given (int_le lon (pos 180000000)) (λ east.
    Some (record {
      lat = lat;
      lon = lon;
      table = table;
      code = code;
      used = used;
      south = record { le = south };
      north = record { le = north };
      west = record { le = west };
      east = record { le = east };
    })))))
