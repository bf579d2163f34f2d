-- When the numbers of a place are on the globe.
use Rattle.std.proofs.Common.{◌≡◌, ℕ, ℤ, pos, negsuc, Bool, true, false, T, Some, None, refl, sym, ap, subst, ◌∙◌}
use Rattle.std.specs.Prelude.{int_le}
use Rattle.std.proofs.lemmas.Option.{same_Some}
use Rattle.std.specs.declared.option.Option.{Option}
use Rattle.aprs_base.specs.declared.packets.Place.{Place}
use Rattle.aprs_position.specs.Places.{OnGlobe, given, place_at}

pub given_holds : {A : Type 0} (test : Bool) (value : T test → Option A) (t : T test) → given test value ≡ value t
given_holds true value t = refl
given_holds false value t = absurd t

pub given_none : {A : Type 0} (test : Bool) (value : T test → Option A) → ((t : T test) → value t ≡ None) → given test value ≡ None
given_none true value none = none tt
given_none false value none = refl

-- a place is what its numbers give
pub place_at_same : (p : Place) → place_at p.lat p.lon p.table p.code p.used ≡ Some p
place_at_same p =
    given_holds _ _ p.south.le ∙ given_holds _ _ p.north.le ∙ given_holds _ _ p.west.le ∙ given_holds _ _ p.east.le

pub place_at_used : (p : Place) (used : ℕ) → p.used ≡ used → place_at p.lat p.lon p.table p.code used ≡ Some p
place_at_used p used e = subst (λ n. place_at p.lat p.lon p.table p.code n ≡ Some p) e (place_at_same p)

pub place_at_none : (lat lon : ℤ) (table code used : ℕ) → ¬ OnGlobe lat lon → place_at lat lon table code used ≡ None
place_at_none lat lon table code used off =
    given_none _ _ (λ s. given_none _ _ (λ n. given_none _ _ (λ w. given_none _ _ (λ e.
    absurd (off (record { le = s }, record { le = n }, record { le = w }, record { le = e }))))))

pub given_some : {A : Type 0} (test : Bool) (value : T test → Option A) (y : A) → given test value ≡ Some y → (t : T test) × (value t ≡ Some y)
given_some true value y h = (tt, h)
given_some false value y h = cc

-- the numbers of a place that is given
pub record HasNumbers (place : Place) (y x : ℤ) (t c u : ℕ) : Type 0 where
  pub lat : place.lat ≡ y
  pub lon : place.lon ≡ x
  pub table : place.table ≡ t
  pub code : place.code ≡ c
  pub used : place.used ≡ u

pub place_at_numbers : (lat lon : ℤ) (table code used : ℕ) (place : Place) → place_at lat lon table code used ≡ Some place → HasNumbers place lat lon table code used
place_at_numbers lat lon table code used place h =
    let south = given_some (int_le (negsuc 89999999) lat) _ place h in
    let north = given_some (int_le lat (pos 90000000)) _ place south.1 in
    let west = given_some (int_le (negsuc 179999999) lon) _ place north.1 in
    let east = given_some (int_le lon (pos 180000000)) _ place west.1 in
    let same = same_Some _ _ east.1 in
    record {
      lat = sym (ap (λ (p : Place). p.lat) same);
      lon = sym (ap (λ (p : Place). p.lon) same);
      table = sym (ap (λ (p : Place). p.table) same);
      code = sym (ap (λ (p : Place). p.code) same);
      used = sym (ap (λ (p : Place). p.used) same);
    }

-- a place that is given is on the globe
pub place_at_on : (lat lon : ℤ) (table code used : ℕ) (place : Place) → place_at lat lon table code used ≡ Some place → OnGlobe lat lon
place_at_on lat lon table code used place h =
    let south = given_some (int_le (negsuc 89999999) lat) _ place h in
    let north = given_some (int_le lat (pos 90000000)) _ place south.1 in
    let west = given_some (int_le (negsuc 179999999) lon) _ place north.1 in
    let east = given_some (int_le lon (pos 180000000)) _ place west.1 in
    (record { le = south.0 }, record { le = north.0 }, record { le = west.0 }, record { le = east.0 })

-- and numbers on the globe give one
pub place_at_some : (lat lon : ℤ) (table code used : ℕ) → OnGlobe lat lon → (place : Place) × (place_at lat lon table code used ≡ Some place)
place_at_some lat lon table code used on =
    let place : Place = record { lat = lat; lon = lon; table = table; code = code; used = used; south = on.0; north = on.1; west = on.2; east = on.3 } in
    (place, place_at_same place)

pub place_at_again : (lat lon : ℤ) (table code used : ℕ) (place : Place) → HasNumbers place lat lon table code used → place_at lat lon table code used ≡ Some place
place_at_again lat lon table code used place has =
    subst (λ n. place_at n lon table code used ≡ Some place) has.lat
    (subst (λ n. place_at place.lat n table code used ≡ Some place) has.lon
    (subst (λ n. place_at place.lat place.lon n code used ≡ Some place) has.table
    (subst (λ n. place_at place.lat place.lon place.table n used ≡ Some place) has.code (place_at_used place used has.used))))
