-- What the compressed form's definition reads is what its grammar writes.
use Rattle.std.proofs.Common.{◌≡◌, ℕ, ◌+◌, ◌-◌, ◌*◌, ◌/◌, ◌<◌, ◌≤◌, true, false, not, ◌&&◌, inl, inr, ℤ, pos, ◌-ℤ◌, ltb, leb, List, [], ◌∷◌, ◌++◌, length, take, drop, get_or, Some, refl, sym, ap, subst, ◌∙◌, arith}
use Rattle.std.specs.List.{list_all}
use Rattle.std.proofs.lemmas.Bool.Decides.{nat_tests}
use Rattle.std.proofs.lemmas.Option.{same_Some}
use Rattle.std.proofs.Math.Nat.{sub-add_cancel}
use Rattle.std.proofs.lemmas.Bool.{false≢true, le-ltb, leb-true, le-leb, and_from, and_parts, cond-true, not-true}
use Rattle.std.specs.Char.{is_ascii_digit}
use Rattle.aprs_base.specs.declared.packets.Place.{Place}
use Rattle.aprs_position.specs.Places.{is_code, is_table, place_at}
use Rattle.aprs_position.specs.Compressed.{base91, compressed_place, is_base91, scaled_of, table_of}
use Rattle.aprs_position.specs.Grammar.{BeginsCompressed, NamesTable, WritesScaled}
use Rattle.aprs_position.proofs.PlaceLemmas.{place_at_numbers, place_at_used}
use Rattle.aprs_base.proofs.StepLemmas.{bind_some, cond_not_some, cond_some}
use Rattle.aprs_position.proofs.Steps.{chosen, three}

scaled_read : (text : List ℕ) (units : ℕ) → scaled_of text ≡ Some units → WritesScaled text units
scaled_read (a ∷ b ∷ c ∷ d ∷ []) units h =
    let all = list_all is_base91 (a ∷ b ∷ c ∷ d ∷ []) in
    let small = leb (base91 (a ∷ b ∷ c ∷ d ∷ [])) 68566680 in
    let test = cond_some (all && small) (Some (base91 (a ∷ b ∷ c ∷ d ∷ []))) units h in
    let tests = and_parts all small test.0 in
    let ar : (33 ≤ a) × (a ≤ 123) = grind (arith, nat_tests) in
    let br : (33 ≤ b) × (b ≤ 123) = grind (arith, nat_tests) in
    let cr : (33 ≤ c) × (c ≤ 123) = grind (arith, nat_tests) in
    let dr : (33 ≤ d) × (d ≤ 123) = grind (arith, nat_tests) in
    let within : base91 (a ∷ b ∷ c ∷ d ∷ []) ≤ 68566680 = leb-true _ _ tests.1 in
    let units_are : base91 (a ∷ b ∷ c ∷ d ∷ []) ≡ units = cc in
    record {
      a = a - 33;
      b = b - 33;
      c = c - 33;
      d = d - 33;
      below = (omega arith, omega arith, omega arith, omega arith);
      spelled = rw (sub-add_cancel ar.0, sub-add_cancel br.0, sub-add_cancel cr.0, sub-add_cancel dr.0) refl;
      value = omega arith;
      within = omega arith;
    }
scaled_read _ units h = cc

scaled_again : (a b c d units : ℕ) → a < 91 → b < 91 → c < 91 → d < 91 → units ≡ a * 753571 + b * 8281 + c * 91 + d → units ≤ 68566680 →
    scaled_of ((a + 33) ∷ (b + 33) ∷ (c + 33) ∷ (d + 33) ∷ []) ≡ Some units
scaled_again a b c d units la lb lc ld value within =
    let sum : base91 ((a + 33) ∷ (b + 33) ∷ (c + 33) ∷ (d + 33) ∷ []) ≡ units = omega arith in
    let digits : list_all is_base91 ((a + 33) ∷ (b + 33) ∷ (c + 33) ∷ (d + 33) ∷ []) ≡ true = grind (arith, nat_tests) in
    cond-true _ _ _ (and_from _ _ digits (le-leb _ _ (omega arith))) ∙ ap Some sum

table_read : (byte table : ℕ) → table_of byte ≡ Some table → NamesTable byte table
table_read byte table h =
    elim (chosen (leb 97 byte && leb byte 106) (Some (byte - 97 + 48)) _ (Some table) h) [
      | inl letter ↦
          let tests = and_parts (leb 97 byte) (leb byte 106) letter.0 in
          let low : 97 ≤ byte = leb-true _ _ tests.0 in
          let high : byte ≤ 106 = leb-true _ _ tests.1 in
          let same : byte - 97 + 48 ≡ table = same_Some _ _ letter.1 in
          inl (and_from _ _ (le-leb 48 table (omega arith)) (le-leb table 57 (omega arith)), omega arith)
      | inr other ↦
          let plain = cond_some (is_table byte && not (is_ascii_digit byte)) (Some byte) table other.1 in
          let tests = and_parts (is_table byte) (not (is_ascii_digit byte)) plain.0 in
          let same : byte ≡ table = same_Some _ _ plain.1 in
          inr (ap is_ascii_digit (sym same) ∙ not-true _ tests.1, ap is_table (sym same) ∙ tests.0, same)
    ]

table_again : (byte table : ℕ) → NamesTable byte table → table_of byte ≡ Some table
table_again byte table (inl digit) = grind (arith, nat_tests)
table_again byte table (inr other) = grind (arith, nat_tests)

no_digit_first : (byte table : ℕ) → NamesTable byte table → is_ascii_digit byte ≡ false
no_digit_first byte table (inl digit) = grind (arith, nat_tests)
no_digit_first byte table (inr other) = ap is_ascii_digit other.2 ∙ other.0

-- thirteen columns
record IsColumns (text : List ℕ) : Type 0 where
  spelled : text ≡ (get_or text 0 0 ∷ (take 4 (drop 1 text) ++ (take 4 (drop 5 text) ++ (get_or text 9 0 ∷ take 3 (drop 10 text))))) ++ drop 13 text
  three_more : length (take 3 (drop 10 text)) ≡ 3
  thirteen : length (get_or text 0 0 ∷ (take 4 (drop 1 text) ++ (take 4 (drop 5 text) ++ (get_or text 9 0 ∷ take 3 (drop 10 text))))) ≡ 13

columns_of : (text : List ℕ) → ltb (length text) 13 ≡ false → IsColumns text
columns_of (a ∷ b ∷ c ∷ d ∷ e ∷ f ∷ g ∷ h ∷ i ∷ j ∷ k ∷ l ∷ m ∷ more) long = record { spelled = refl; three_more = refl; thirteen = refl }
columns_of _ long = absurd (false≢true (sym long))

-- the latitude and the longitude of so many units
abbrev lat_of : ℕ → ℤ
lat_of south = pos 90000000 -ℤ pos (south * 1000000 / 380926)

abbrev lon_of : ℕ → ℤ
lon_of east = pos (east * 1000000 / 190463) -ℤ pos 180000000

pub compressed_read : (text : List ℕ) (place : Place) → compressed_place text ≡ Some place → BeginsCompressed text place
unfolding compressed_place
compressed_read text place given =
    let sized = cond_not_some (ltb (length text) 13) _ place given in
    let table = bind_some (table_of (get_or text 0 0)) _ place sized.1 in
    let south = bind_some (scaled_of (take 4 (drop 1 text))) _ place table.2 in
    let east = bind_some (scaled_of (take 4 (drop 5 text))) _ place south.2 in
    let test = cond_some (is_code (get_or text 9 0)) _ place east.2 in
    let at = columns_of text sized.0 in
    let p = place_at_numbers (lat_of south.0) (lon_of east.0) table.0 (get_or text 9 0) 13 place test.1 in
    record {
      front = get_or text 0 0 ∷ (take 4 (drop 1 text) ++ (take 4 (drop 5 text) ++ (get_or text 9 0 ∷ take 3 (drop 10 text))));
      rest = drop 13 text;
      split = at.spelled;
      form_of = record {
        overlay = get_or text 0 0;
        y = take 4 (drop 1 text);
        x = take 4 (drop 5 text);
        course = take 3 (drop 10 text);
        south = south.0;
        east = east.0;
        spelled = rw p.code refl;
        three = at.three_more;
        table = rw p.table (table_read _ _ table.1);
        from_pole = scaled_read _ _ south.1;
        from_date_line = scaled_read _ _ east.1;
        lat = p.lat;
        lon = p.lon;
        code = rw p.code test.0;
      };
      used = p.used ∙ sym at.thirteen;
    }

-- the definition on thirteen columns and more
compressed_columns : (overlay a b c d e f g h code k l m : ℕ) (rest : List ℕ) (place : Place) (south east : ℕ) →
    table_of overlay ≡ Some place.table → scaled_of (a ∷ b ∷ c ∷ d ∷ []) ≡ Some south → scaled_of (e ∷ f ∷ g ∷ h ∷ []) ≡ Some east → is_code code ≡ true →
    place_at (lat_of south) (lon_of east) place.table code 13 ≡ Some place →
    compressed_place (overlay ∷ a ∷ b ∷ c ∷ d ∷ e ∷ f ∷ g ∷ h ∷ code ∷ k ∷ l ∷ m ∷ rest) ≡ Some place
unfolding compressed_place
compressed_columns overlay a b c d e f g h code k l m rest place south east t s x symbol placed =
    let long : ltb (length (overlay ∷ a ∷ b ∷ c ∷ d ∷ e ∷ f ∷ g ∷ h ∷ code ∷ k ∷ l ∷ m ∷ rest)) 13 ≡ false = le-ltb _ _ (omega arith) in
    rw (long, t, s, x, symbol) placed

compressed_spelled : (text front y x course rest : List ℕ) (place : Place) (overlay south east a b c d e f g h k l m : ℕ) →
    text ≡ front ++ rest → front ≡ overlay ∷ (y ++ (x ++ (place.code ∷ course))) → place.used ≡ length front →
    y ≡ a ∷ b ∷ c ∷ d ∷ [] → x ≡ e ∷ f ∷ g ∷ h ∷ [] → course ≡ k ∷ l ∷ m ∷ [] →
    table_of overlay ≡ Some place.table → scaled_of (a ∷ b ∷ c ∷ d ∷ []) ≡ Some south → scaled_of (e ∷ f ∷ g ∷ h ∷ []) ≡ Some east →
    is_code place.code ≡ true → place.lat ≡ lat_of south → place.lon ≡ lon_of east → compressed_place text ≡ Some place
compressed_spelled text front y x course rest place overlay south east a b c d e f g h k l m is_text is_front used ya xa ca t s z code lat lon =
    let thirteen : place.used ≡ 13 = used ∙ ap length is_front ∙ rw (ya, xa, ca) refl in
    let placed : place_at (lat_of south) (lon_of east) place.table place.code 13 ≡ Some place =
    subst (λ n. place_at n (lon_of east) place.table place.code 13 ≡ Some place) lat
    (subst (λ n. place_at place.lat n place.table place.code 13 ≡ Some place) lon (place_at_used place 13 thirteen)) in
    rw (is_text, is_front, ya, xa, ca) (compressed_columns overlay a b c d e f g h place.code k l m rest place south east t s z code placed)

pub compressed_again : (text : List ℕ) (place : Place) → BeginsCompressed text place → compressed_place text ≡ Some place
compressed_again text place begins =
    let p = begins.form_of in
    let y = p.from_pole in
    let x = p.from_date_line in
    let c = three p.course p.three in
    compressed_spelled text begins.front p.y p.x p.course begins.rest place p.overlay p.south p.east _ _ _ _ _ _ _ _ _ _ _
    begins.split p.spelled begins.used y.spelled x.spelled c.3 (table_again _ _ p.table)
    (scaled_again y.a y.b y.c y.d p.south y.below.0 y.below.1 y.below.2 y.below.3 y.value y.within)
    (scaled_again x.a x.b x.c x.d p.east x.below.0 x.below.1 x.below.2 x.below.3 x.value x.within) p.code p.lat p.lon

-- no digit begins the compressed form
pub compressed_first : (text : List ℕ) (place : Place) → compressed_place text ≡ Some place → is_ascii_digit (get_or text 0 0) ≡ false
unfolding compressed_place
compressed_first text place h =
    let sized = cond_not_some (ltb (length text) 13) _ place h in
    let table = bind_some (table_of (get_or text 0 0)) _ place sized.1 in
    no_digit_first (get_or text 0 0) table.0 (table_read _ _ table.1)
