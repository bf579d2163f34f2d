-- The straight line through the table of the sine: its bound, its end, and that it rises.
use Rattle.std.proofs.Common.{◌≡◌, ℕ, ℤ, false, nat_le, ◌+◌, ◌-◌, ◌*◌, ◌/◌, ◌%◌, ◌<◌, ◌≤◌, slice_index, refl, arith, inl, inr}
use Rattle.std.proofs.Math.Nat.{mul-lt-mul_of_pos_left}
use Rattle.std.proofs.lemmas.Bool.{cases_lt, lt-leb}
use Rattle.std.proofs.lemmas.Nat.{mul-lt}
use Rattle.fixed_distance.specs.Distance.{sines, half_sine_of, HalfSineRises, arc_of, latitude_gap, is_within, haversine_of, longitude_gap, cosine_of, square}
use Rattle.fixed_distance.proofs.Table.{sines-rise, sines-below, sines-bound}

-- a point of the line before the next number of the table
pub line_below : (low high r : ℕ) → low < high → r < 2000000 → low * 2000000 + (high - low) * r < high * 2000000
line_below low high r rise h =
    let short : (high - low) * r < (high - low) * 2000000 = mul-lt-mul_of_pos_left h (omega arith) in
    omega arith

pub line_rises : (low high r s : ℕ) → low < high → r < s → low * 2000000 + (high - low) * r < low * 2000000 + (high - low) * s
line_rises low high r s rise h =
    let more : (high - low) * r < (high - low) * s = mul-lt-mul_of_pos_left h (omega arith) in
    omega arith

pub half_sine_of-top : half_sine_of 180000000 ≡ 2000000000000
unfolding half_sine_of
half_sine_of-top = refl

-- below the next number of the table, and not below its own
pub half_sine_of-within : (x : ℕ) → x < 180000000 → (half_sine_of x < slice_index sines (x / 2000000 + 1) * 2000000) × (slice_index sines (x / 2000000) * 2000000 ≤ half_sine_of x)
unfolding half_sine_of
half_sine_of-within x h =
    let rise = sines-rise (x / 2000000) (omega arith) in
    (line_below (slice_index sines (x / 2000000)) (slice_index sines (x / 2000000 + 1)) (x % 2000000) rise (omega arith), omega arith)

pub half_sine_of-bound : (x : ℕ) → x ≤ 180000000 → half_sine_of x ≤ 2000000000000
half_sine_of-bound x h = elim (cases_lt x 180000000) as (λ _. half_sine_of x ≤ 2000000000000) [
  | inl below ↦
      let within = half_sine_of-within x below in
      let highest = sines-bound (x / 2000000 + 1) (omega arith) in
      omega arith
  | inr top ↦
      let e : x ≡ 180000000 = omega arith in
      rw (e, half_sine_of-top) (omega arith)
]

-- both in one part of the line
pub half_sine_of-rises_in : (x y : ℕ) → x < y → y < 180000000 → x / 2000000 ≡ y / 2000000 → half_sine_of x < half_sine_of y
unfolding half_sine_of
half_sine_of-rises_in x y h top same =
    let rise = sines-rise (x / 2000000) (omega arith) in
    rw (← same) (line_rises (slice_index sines (x / 2000000)) (slice_index sines (x / 2000000 + 1)) (x % 2000000) (y % 2000000) rise (omega arith))

-- the first in an earlier part
pub half_sine_of-rises_over : (x y : ℕ) → y < 180000000 → x / 2000000 < y / 2000000 → half_sine_of x < half_sine_of y
half_sine_of-rises_over x y top earlier =
    let from = half_sine_of-within x (omega arith) in
    let to = half_sine_of-within y top in
    let kx : ℕ = x / 2000000 in
    let ky : ℕ = y / 2000000 in
    let between = sines-below (kx + 1) (ky - (kx + 1)) (omega arith) in
    let e : kx + 1 + (ky - (kx + 1)) ≡ ky = omega arith in
    let along = rw e at between in
    omega arith

pub half_sine_of-rises : HalfSineRises
half_sine_of-rises x y h top = elim (cases_lt y 180000000) as (λ _. half_sine_of x < half_sine_of y) [
  | inl below ↦ elim (cases_lt (x / 2000000) (y / 2000000)) as (λ _. half_sine_of x < half_sine_of y) [
    | inl earlier ↦ half_sine_of-rises_over x y below earlier
    | inr same ↦ half_sine_of-rises_in x y h below (omega arith)
  ]
  | inr at_top ↦
      let within = half_sine_of-within x (omega arith) in
      let highest = sines-bound (x / 2000000 + 1) (omega arith) in
      let e : y ≡ 180000000 = omega arith in
      rw (e, half_sine_of-top) (omega arith)
]

pub ruleset line_rules = (sines-rise, half_sine_of-top, half_sine_of-bound, half_sine_of-rises)

-- latitudes that are further apart than the arc decide
pub too_far : (lat lon lat' lon' : ℤ) (km : ℕ) → arc_of km < latitude_gap lat lat' → latitude_gap lat lat' ≤ 180000000 → is_within lat lon lat' lon' km ≡ false
unfolding is_within haversine_of
too_far lat lon lat' lon' km far top =
    let more = half_sine_of-rises (arc_of km) (latitude_gap lat lat') far top in
    let squares = mul-lt _ _ _ _ more more in
    lt-leb _ _ (omega arith)

pub haversine_is : (lat lon lat' lon' : ℤ) (first cosines across : ℕ) → first ≡ square (half_sine_of (latitude_gap lat lat')) → cosines ≡ cosine_of lat * cosine_of lat' → across ≡ square (half_sine_of (longitude_gap lon lon')) → first * 1000000000000 + cosines * across ≡ haversine_of lat lon lat' lon'
unfolding haversine_of
haversine_is lat lon lat' lon' first cosines across p q r = rw (p, q, r)

pub is_within_is : (lat lon lat' lon' : ℤ) (km two arc : ℕ) → two ≡ haversine_of lat lon lat' lon' → arc ≡ square (half_sine_of (arc_of km)) → nat_le two (arc * 1000000000000) ≡ is_within lat lon lat' lon' km
unfolding is_within
is_within_is lat lon lat' lon' km two arc p q = rw (p, q)
