-- The distance of two places on a globe, this project's own measure: the haversine formula by a table of the sine, in whole
-- numbers alone. Places are in millionths of a degree (aprs-is.net, Server-side Filter Commands, Range Filter).
use Rattle.std.specs.Prelude.{ℕ, ◌+◌, ◌-◌, ◌*◌, ◌/◌, ◌%◌, ◌<◌, ◌≤◌, Bool, nat_le, List, [], ◌∷◌, slice_index, ℤ, ◌-ℤ◌, unsigned_abs, min}

-- a million times the sine of each whole number of degrees from 0 to 90
abbrev pub sines : List ℕ
sines =
    0 ∷ 17452 ∷ 34899 ∷ 52336 ∷ 69756 ∷ 87156 ∷ 104528 ∷ 121869 ∷ 139173 ∷ 156434 ∷
    173648 ∷ 190809 ∷ 207912 ∷ 224951 ∷ 241922 ∷ 258819 ∷ 275637 ∷ 292372 ∷ 309017 ∷ 325568 ∷
    342020 ∷ 358368 ∷ 374607 ∷ 390731 ∷ 406737 ∷ 422618 ∷ 438371 ∷ 453990 ∷ 469472 ∷ 484810 ∷
    500000 ∷ 515038 ∷ 529919 ∷ 544639 ∷ 559193 ∷ 573576 ∷ 587785 ∷ 601815 ∷ 615661 ∷ 629320 ∷
    642788 ∷ 656059 ∷ 669131 ∷ 681998 ∷ 694658 ∷ 707107 ∷ 719340 ∷ 731354 ∷ 743145 ∷ 754710 ∷
    766044 ∷ 777146 ∷ 788011 ∷ 798636 ∷ 809017 ∷ 819152 ∷ 829038 ∷ 838671 ∷ 848048 ∷ 857167 ∷
    866025 ∷ 874620 ∷ 882948 ∷ 891007 ∷ 898794 ∷ 906308 ∷ 913545 ∷ 920505 ∷ 927184 ∷ 933580 ∷
    939693 ∷ 945519 ∷ 951057 ∷ 956305 ∷ 961262 ∷ 965926 ∷ 970296 ∷ 974370 ∷ 978148 ∷ 981627 ∷
    984808 ∷ 987688 ∷ 990268 ∷ 992546 ∷ 994522 ∷ 996195 ∷ 997564 ∷ 998630 ∷ 999391 ∷ 999848 ∷
    1000000 ∷ []

-- two million million times the sine of half of x millionths of a degree: the straight line between the two neighbours in
-- the table
unfoldable pub half_sine_of : ℕ → ℕ
half_sine_of x =
    let k = x / 2000000 in
    let r = x % 2000000 in
    slice_index sines k * 2000000 + (slice_index sines (k + 1) - slice_index sines k) * r

-- a million times the cosine of a latitude, which is the sine of what is left to 90 degrees
unfoldable pub cosine_of : ℤ → ℕ
cosine_of lat = half_sine_of (180000000 - 2 * unsigned_abs lat) / 2000000

-- how far two latitudes are apart
abbrev pub latitude_gap : ℤ → ℤ → ℕ
latitude_gap a b = unsigned_abs (a -ℤ b)

-- how far two longitudes are apart, by the shorter way round the globe
abbrev pub longitude_gap : ℤ → ℤ → ℕ
longitude_gap a b = min (unsigned_abs (a -ℤ b)) (360000000 - unsigned_abs (a -ℤ b))

-- the arc of so many kilometres, of which a degree has 111.195, at most half of the globe
abbrev pub arc_of : ℕ → ℕ
arc_of km = min (km * 1000000000 / 111195) 180000000

abbrev pub square : ℕ → ℕ
square n = n * n

-- the haversine of the two places, four times ten to the power of 36 times over
unfoldable pub haversine_of : ℤ → ℤ → ℤ → ℤ → ℕ
haversine_of lat lon lat' lon' =
    square (half_sine_of (latitude_gap lat lat')) * 1000000000000
    + cosine_of lat * cosine_of lat' * square (half_sine_of (longitude_gap lon lon'))

-- that of an arc along a meridian
abbrev pub arc_haversine_of : ℕ → ℕ
arc_haversine_of arc = square (half_sine_of arc) * 1000000000000

-- whether the second place lies within so many kilometres of the first
unfoldable pub is_within : ℤ → ℤ → ℤ → ℤ → ℕ → Bool
is_within lat lon lat' lon' km = nat_le (haversine_of lat lon lat' lon') (arc_haversine_of (arc_of km))

-- a greater arc has a greater number
abbrev pub HalfSineRises : Type 0
HalfSineRises = (x y : ℕ) → x < y → y ≤ 180000000 → half_sine_of x < half_sine_of y
