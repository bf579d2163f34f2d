-- What the plain form's definition reads is what its grammar writes.
use Rattle.std.proofs.Common.{◌≡◌, ℕ, ◌+◌, ◌*◌, ◌<◌, Bool, true, false, cond, ◌&&◌, inl, inr, ltb, eqb, List, [], ◌∷◌, ◌++◌, length, take, drop, get_or, Some, refl, sym, ap, subst, ◌∙◌, arith}
use Rattle.std.specs.List.{list_all}
use Rattle.std.proofs.lemmas.Bool.Decides.{nat_tests}
use Rattle.std.proofs.lemmas.Bool.{eqb-true, eq-eqb, false≢true, ltb-true, le-ltb, lt-ltb, and_parts}
use Rattle.std.specs.Char.{is_ascii_digit}
use Rattle.aprs_base.specs.Bytes.{is_blank}
use Rattle.aprs_base.specs.declared.packets.Place.{Place}
use Rattle.std.proofs.lemmas.Option.{same_Some}
use Rattle.aprs_position.specs.Places.{is_code, is_table}
use Rattle.aprs_position.specs.Plain.{angle_of, digit_value, degrees_of, ends_in_blanks, hundredths_of, is_exact, mark_after, number, plain_place, side_of, written_of}
use Rattle.aprs_position.specs.Grammar.{BeginsPlain, IsSide, WritesAngle}
use Rattle.aprs_position.specs.MarkGrammar.{IsPlaceOf}
use Rattle.aprs_position.specs.Written.{finest}
use Rattle.aprs_position.specs.declared.written.Angle.{Angle}
use Rattle.aprs_position.specs.declared.written.Written.{Written}
use Rattle.aprs_base.proofs.StepLemmas.{bind_some, cond_not_some, cond_some}
use Rattle.aprs_position.proofs.WrittenLemmas.{counted, finest_again, finest_read}
use Rattle.aprs_position.proofs.Steps.{chosen, three, two}

-- digits and then blanks
abbrev EndsInBlanks : List ℕ → Type 0
EndsInBlanks xs = (shown blanks : List ℕ) × (xs ≡ shown ++ blanks) × (list_all is_ascii_digit shown ≡ true) × (list_all is_blank blanks ≡ true)

parts_of : (digit : Bool) (x : ℕ) (xs : List ℕ) → is_ascii_digit x ≡ digit → (ends_in_blanks xs ≡ true → EndsInBlanks xs) →
    cond digit (ends_in_blanks xs) (list_all is_blank (x ∷ xs)) ≡ true → EndsInBlanks (x ∷ xs)
parts_of true x xs d more h =
    let rest = more h in
    (x ∷ rest.0, rest.1, ap (λ ys. x ∷ ys) rest.2, (rw d rest.3), rest.4)
parts_of false x xs d more h = ([], x ∷ xs, refl, refl, h)

pub ends_parts : (xs : List ℕ) → ends_in_blanks xs ≡ true → EndsInBlanks xs
ends_parts [] h = ([], [], refl, refl, refl)
ends_parts (x ∷ xs) h = parts_of (is_ascii_digit x) x xs refl (ends_parts xs) h

-- no blank is a digit
no_digit : (x : ℕ) → eqb x 32 ≡ true → is_ascii_digit x ≡ false
no_digit x h = grind (arith, nat_tests)

all_blank_ends : (xs : List ℕ) → list_all is_blank xs ≡ true → ends_in_blanks xs ≡ true
all_blank_ends [] h = refl
all_blank_ends (x ∷ xs) h = rw (no_digit x (and_parts (eqb x 32) (list_all is_blank xs) h).0) h

pub ends_again : (shown blanks : List ℕ) → list_all is_ascii_digit shown ≡ true → list_all is_blank blanks ≡ true → ends_in_blanks (shown ++ blanks) ≡ true
ends_again [] blanks d b = all_blank_ends blanks b
ends_again (x ∷ xs) blanks d b =
    let tests = and_parts (is_ascii_digit x) (list_all is_ascii_digit xs) d in
    rw tests.0 (ends_again xs blanks tests.1 b)

value_parts : (a b c d : ℕ) → ((((0 * 10 + a) * 10 + b) * 10 + c) * 10 + d) ≡ ((0 * 10 + a) * 10 + b) * 100 + ((0 * 10 + c) * 10 + d)
value_parts a b c d = omega arith

whole_read : (degrees : List ℕ) (d : ℕ) → degrees_of degrees ≡ Some d → (list_all is_ascii_digit degrees ≡ true) × (number degrees ≡ d)
whole_read (t ∷ o ∷ []) d h = let test = cond_some (list_all is_ascii_digit (t ∷ o ∷ [])) (Some (number (t ∷ o ∷ []))) d h in (test.0, cc)
whole_read (x ∷ t ∷ o ∷ []) d h = let test = cond_some (list_all is_ascii_digit (x ∷ t ∷ o ∷ [])) (Some (number (x ∷ t ∷ o ∷ []))) d h in (test.0, cc)
whole_read _ d h = cc

-- the tests on `MM.hh`, apart
abbrev IsHundredths : (text : List ℕ) (value : ℕ) → Type 0
IsHundredths text value =
    (m n h i : ℕ) × (text ≡ m ∷ n ∷ 46 ∷ h ∷ i ∷ []) × (ends_in_blanks (m ∷ n ∷ h ∷ i ∷ []) ≡ true)
    × (number (m ∷ n ∷ []) < 60) × (value ≡ number (m ∷ n ∷ h ∷ i ∷ []))

hundredths_read : (text : List ℕ) (value : ℕ) → hundredths_of text ≡ Some value → IsHundredths text value
hundredths_read (m ∷ n ∷ p ∷ h ∷ i ∷ []) value given =
    let ends = ends_in_blanks (m ∷ n ∷ h ∷ i ∷ []) in
    let below = ltb (number (m ∷ n ∷ [])) 60 in
    let test = cond_some (eqb p 46 && ends && below) (Some (number (m ∷ n ∷ h ∷ i ∷ []))) value given in
    let front = and_parts (eqb p 46 && ends) below test.0 in
    let tests = and_parts (eqb p 46) ends front.0 in
    let point : p ≡ 46 = grind (arith, nat_tests) in
    (m, n, h, i, rw point refl, tests.1, ltb-true _ _ front.1, cc)
hundredths_read _ value h = cc

-- an angle that is read is written so, by the same digits
pub angle_read : (positive : Bool) (count : ℕ) (degrees minutes : List ℕ) (angle : Angle) → length degrees ≡ count → angle_of positive degrees minutes ≡ Some angle →
    (w : WritesAngle count (degrees ++ minutes) angle) × (w.minutes ≡ take 2 minutes) × (w.hundredths ≡ take 2 (drop 3 minutes)) × (angle.positive ≡ positive)
angle_read positive count degrees minutes angle len given =
    let d = bind_some (degrees_of degrees) _ angle given in
    let whole = whole_read degrees d.0 d.1 in
    let n = bind_some (hundredths_of minutes) _ angle d.2 in
    let text = hundredths_read minutes n.0 n.1 in
    let parts = ends_parts _ text.5 in
    let sum = value_parts (digit_value text.0) (digit_value text.1) (digit_value text.2) (digit_value text.3) in
    let same = same_Some _ _ n.2 in (
      record {
        degrees = degrees;
        minutes = text.0 ∷ text.1 ∷ [];
        hundredths = text.2 ∷ text.3 ∷ [];
        shown = parts.0;
        blanks = parts.1;
        spelled = ap (λ ys. degrees ++ ys) text.4;
        lengths = (len, refl, refl);
        whole = whole.0;
        ambiguity = parts.2;
        digits = parts.3;
        blank = parts.4;
        below = text.6;
        value = (sym (whole.1 ∙ ap (λ (a : Angle). a.degrees) same), sym (ap (λ (a : Angle). a.hundredths) same) ∙ text.7 ∙ sum);
      },
      sym (ap (take 2) text.4),
      sym (ap (λ ys. take 2 (drop 3 ys)) text.4),
      sym (ap (λ (a : Angle). a.positive) same),
    )

-- what is written in seven or eight columns
abbrev IsAngleText : (degrees minutes hundredths text : List ℕ) (angle : Angle) → Type 0
IsAngleText degrees minutes hundredths text angle =
    (m n h i : ℕ) × (text ≡ degrees ++ (m ∷ n ∷ 46 ∷ h ∷ i ∷ [])) × (angle_of angle.positive degrees (m ∷ n ∷ 46 ∷ h ∷ i ∷ []) ≡ Some angle)
    × (minutes ≡ m ∷ n ∷ []) × (hundredths ≡ h ∷ i ∷ [])

-- an angle of these numbers
angle_same : (angle : Angle) (degrees hundredths : ℕ) → angle.degrees ≡ degrees → angle.hundredths ≡ hundredths →
    ◌≡◌ {A = Angle} (record { positive = angle.positive; degrees = degrees; hundredths = hundredths }) angle
angle_same angle degrees hundredths d h =
    subst (λ n. ◌≡◌ {A = Angle} (record { positive = angle.positive; degrees = n; hundredths = hundredths }) angle) d
    (subst (λ n. ◌≡◌ {A = Angle} (record { positive = angle.positive; degrees = angle.degrees; hundredths = n }) angle) h refl)

angle_columns : (count : ℕ) (text : List ℕ) (angle : Angle) (w : WritesAngle count text angle) (m n h i : ℕ) →
    degrees_of w.degrees ≡ Some (number w.degrees) → w.minutes ≡ m ∷ n ∷ [] → w.hundredths ≡ h ∷ i ∷ [] → IsAngleText w.degrees w.minutes w.hundredths text angle
angle_columns count text angle w m n h i whole minutes hundredths =
    let joined : m ∷ n ∷ h ∷ i ∷ [] ≡ w.minutes ++ w.hundredths = rw (minutes, hundredths) refl in
    let ends : ends_in_blanks (m ∷ n ∷ h ∷ i ∷ []) ≡ true =
    ap ends_in_blanks (joined ∙ w.ambiguity) ∙ ends_again w.shown w.blanks w.digits w.blank in
    let below : number (m ∷ n ∷ []) < 60 = rw minutes at w.below in
    let value_is = rw (minutes, hundredths) at w.value.1 in
    let sum = value_parts (digit_value m) (digit_value n) (digit_value h) (digit_value i) in
    (m, n, h, i, w.spelled ∙ rw (minutes, hundredths) refl, rw (whole, ends, lt-ltb _ _ below) (ap Some (angle_same angle _ _ w.value.0 (value_is ∙ sym sum))), minutes, hundredths)

angle_again : (count : ℕ) (text : List ℕ) (angle : Angle) (w : WritesAngle count text angle) →
    degrees_of w.degrees ≡ Some (number w.degrees) → IsAngleText w.degrees w.minutes w.hundredths text angle
angle_again count text angle w whole =
    let m = two w.minutes w.lengths.1 in
    let h = two w.hundredths w.lengths.2 in
    angle_columns count text angle w m.0 m.1 h.0 h.1 whole m.2 h.2

whole_two : (degrees : List ℕ) (a b : ℕ) → degrees ≡ a ∷ b ∷ [] → list_all is_ascii_digit degrees ≡ true → degrees_of degrees ≡ Some (number degrees)
whole_two degrees a b d digits = let test : list_all is_ascii_digit (a ∷ b ∷ []) ≡ true = rw d at digits in rw (d, test) refl

whole_three : (degrees : List ℕ) (a b c : ℕ) → degrees ≡ a ∷ b ∷ c ∷ [] → list_all is_ascii_digit degrees ≡ true → degrees_of degrees ≡ Some (number degrees)
whole_three degrees a b c d digits = let test : list_all is_ascii_digit (a ∷ b ∷ c ∷ []) ≡ true = rw d at digits in rw (d, test) refl

-- the letter of a side
side_read : (plus minus letter : ℕ) (positive : Bool) → side_of plus minus letter ≡ Some positive → IsSide plus minus letter positive
side_read plus minus letter positive h =
    elim (chosen (eqb letter plus) (Some true) _ (Some positive) h) [
      | inl side ↦ inl (eqb-true _ _ side.0, sym (same_Some _ _ side.1))
      | inr other ↦ let side = cond_some (eqb letter minus) (Some false) positive other.1 in inr (eqb-true _ _ side.0, sym (same_Some _ _ side.1))
    ]

side_again : (plus minus letter : ℕ) (positive : Bool) → eqb minus plus ≡ false → IsSide plus minus letter positive → side_of plus minus letter ≡ Some positive
side_again plus minus letter positive apart (inl side) = rw (side.0, eq-eqb plus plus refl, side.1) refl
side_again plus minus letter positive apart (inr side) = rw (side.0, apart, eq-eqb minus minus refl, side.1) refl

-- nineteen columns
abbrev columns : List ℕ → List ℕ
columns text =
    (take 2 text ++ take 5 (drop 2 text)) ++ (get_or text 7 0 ∷ get_or text 8 0 ∷ ((take 3 (drop 9 text) ++ take 5 (drop 12 text)) ++ (get_or text 17 0 ∷ get_or text 18 0 ∷ [])))

record IsColumns (text : List ℕ) : Type 0 where
  spelled : text ≡ columns text ++ drop 19 text
  digits : take 2 (take 5 (drop 2 text)) ++ (take 2 (drop 3 (take 5 (drop 2 text))) ++ (take 2 (take 5 (drop 12 text)) ++ take 2 (drop 3 (take 5 (drop 12 text)))))
      ≡ take 2 (drop 2 text) ++ (take 2 (drop 5 text) ++ (take 2 (drop 12 text) ++ take 2 (drop 15 text)))
  two_digits : length (take 2 text) ≡ 2
  three_digits : length (take 3 (drop 9 text)) ≡ 3
  nineteen : length (columns text) ≡ 19

columns_of : (text : List ℕ) → ltb (length text) 19 ≡ false → IsColumns text
columns_of (a ∷ b ∷ c ∷ d ∷ e ∷ f ∷ g ∷ h ∷ i ∷ j ∷ k ∷ l ∷ m ∷ n ∷ o ∷ p ∷ q ∷ r ∷ s ∷ more) long =
    record { spelled = refl; digits = refl; two_digits = refl; three_digits = refl; nineteen = refl }
columns_of _ long = absurd (false≢true (sym long))

found_by : (written whole : Written) (exact tested : Bool) (rest : List ℕ) (place : Place) → written ≡ whole → exact ≡ tested →
    finest whole (counted tested rest) ≡ Some place → finest written (counted exact rest) ≡ Some place
found_by written whole exact tested rest place w e found = rw (w, e) found

pub plain_read : (text : List ℕ) (place : Place) → plain_place text ≡ Some place → BeginsPlain text place
unfolding plain_place written_of mark_after
plain_read text place given =
    let sized = cond_not_some (ltb (length text) 19) _ place given in
    let whole = bind_some (written_of text) _ place sized.1 in
    let north = bind_some (side_of 78 83 (get_or text 7 0)) _ whole.0 whole.1 in
    let lat = bind_some (angle_of north.0 (take 2 text) (take 5 (drop 2 text))) _ whole.0 north.2 in
    let east = bind_some (side_of 69 87 (get_or text 17 0)) _ whole.0 lat.2 in
    let lon = bind_some (angle_of east.0 (take 3 (drop 9 text)) (take 5 (drop 12 text))) _ whole.0 east.2 in
    let symbol = cond_some (is_table (get_or text 8 0) && is_code (get_or text 18 0)) _ whole.0 lon.2 in
    let tests = and_parts (is_table (get_or text 8 0)) (is_code (get_or text 18 0)) symbol.0 in
    let at = columns_of text sized.0 in
    let y = angle_read north.0 2 (take 2 text) (take 5 (drop 2 text)) lat.0 at.two_digits lat.1 in
    let x = angle_read east.0 3 (take 3 (drop 9 text)) (take 5 (drop 12 text)) lon.0 at.three_digits lon.1 in
    let written : Written = record { lat = lat.0; lon = lon.0; table = get_or text 8 0; code = get_or text 18 0; used = 19 } in
    let digits = y.0.minutes ++ (y.0.hundredths ++ (x.0.minutes ++ x.0.hundredths)) in
    let digits_are : digits ≡ take 2 (drop 2 text) ++ (take 2 (drop 5 text) ++ (take 2 (drop 12 text) ++ take 2 (drop 15 text))) = rw (y.1, y.2, x.1, x.2) at.digits in
    let exact : list_all is_ascii_digit digits ≡ is_exact text = ap (list_all is_ascii_digit) digits_are in
    let found = found_by written whole.0 _ (is_exact text) (drop 19 text) place (same_Some _ _ symbol.1) exact whole.2 in
    let p = finest_read (list_all is_ascii_digit digits) written (drop 19 text) place found in
    record {
      front = columns text;
      rest = drop 19 text;
      split = at.spelled;
      form_of = record {
        latitude = take 2 text ++ take 5 (drop 2 text);
        longitude = take 3 (drop 9 text) ++ take 5 (drop 12 text);
        north = get_or text 7 0;
        east = get_or text 17 0;
        written = written;
        spelled = rw (p.table, p.code) refl;
        latitude_angle = y.0;
        longitude_angle = x.0;
        lat = rw y.3 (side_read 78 83 _ _ north.1);
        lon = rw x.3 (side_read 69 87 _ _ east.1);
        table = rw p.table tests.0;
        code = rw p.code tests.1;
        placed = p;
      };
      used = p.used ∙ sym at.nineteen;
    }

-- what is written with this symbol
written_same : (w : Written) (table code used : ℕ) → w.table ≡ table → w.code ≡ code → w.used ≡ used →
    ◌≡◌ {A = Written} (record { lat = w.lat; lon = w.lon; table = table; code = code; used = used }) w
written_same w table code used t c u =
    subst (λ n. ◌≡◌ {A = Written} (record { lat = w.lat; lon = w.lon; table = n; code = code; used = used }) w) t
    (subst (λ n. ◌≡◌ {A = Written} (record { lat = w.lat; lon = w.lon; table = w.table; code = n; used = used }) w) c
    (subst (λ n. ◌≡◌ {A = Written} (record { lat = w.lat; lon = w.lon; table = w.table; code = w.code; used = n }) w) u refl))

-- the definitions on nineteen columns and more
written_columns : (a b m n h i north t c d e k l o q east code : ℕ) (rest : List ℕ) (w : Written) →
    side_of 78 83 north ≡ Some w.lat.positive → angle_of w.lat.positive (a ∷ b ∷ []) (m ∷ n ∷ 46 ∷ h ∷ i ∷ []) ≡ Some w.lat →
    side_of 69 87 east ≡ Some w.lon.positive → angle_of w.lon.positive (c ∷ d ∷ e ∷ []) (k ∷ l ∷ 46 ∷ o ∷ q ∷ []) ≡ Some w.lon →
    is_table t ≡ true → is_code code ≡ true → w.table ≡ t → w.code ≡ code → w.used ≡ 19 →
    written_of (a ∷ b ∷ m ∷ n ∷ 46 ∷ h ∷ i ∷ north ∷ t ∷ c ∷ d ∷ e ∷ k ∷ l ∷ 46 ∷ o ∷ q ∷ east ∷ code ∷ rest) ≡ Some w
unfolding written_of
written_columns a b m n h i north t c d e k l o q east code rest w ys ya xs xa table symbol wt wc wu =
    rw (ys, ya, xs, xa, table, symbol) (ap Some (written_same w t code 19 wt wc wu))

plain_columns : (a b m n h i north t c d e k l o q east code : ℕ) (rest : List ℕ) (w : Written) (place : Place) →
    written_of (a ∷ b ∷ m ∷ n ∷ 46 ∷ h ∷ i ∷ north ∷ t ∷ c ∷ d ∷ e ∷ k ∷ l ∷ 46 ∷ o ∷ q ∷ east ∷ code ∷ rest) ≡ Some w →
    finest w (counted (list_all is_ascii_digit (m ∷ n ∷ h ∷ i ∷ k ∷ l ∷ o ∷ q ∷ [])) rest) ≡ Some place →
    plain_place (a ∷ b ∷ m ∷ n ∷ 46 ∷ h ∷ i ∷ north ∷ t ∷ c ∷ d ∷ e ∷ k ∷ l ∷ 46 ∷ o ∷ q ∷ east ∷ code ∷ rest) ≡ Some place
unfolding plain_place mark_after
plain_columns a b m n h i north t c d e k l o q east code rest w place written found =
    let long : ltb (length (a ∷ b ∷ m ∷ n ∷ 46 ∷ h ∷ i ∷ north ∷ t ∷ c ∷ d ∷ e ∷ k ∷ l ∷ 46 ∷ o ∷ q ∷ east ∷ code ∷ rest)) 19 ≡ false = le-ltb _ _ (omega arith) in
    rw (long, written) found

plain_spelled : (text front latitude longitude rest dy my hy dx mx hx : List ℕ) (place : Place) (w : Written) (north east a b c d e : ℕ) →
    text ≡ front ++ rest → front ≡ latitude ++ (north ∷ place.table ∷ (longitude ++ (east ∷ place.code ∷ []))) → place.used ≡ length front →
    dy ≡ a ∷ b ∷ [] → IsAngleText dy my hy latitude w.lat → dx ≡ c ∷ d ∷ e ∷ [] → IsAngleText dx mx hx longitude w.lon →
    side_of 78 83 north ≡ Some w.lat.positive → side_of 69 87 east ≡ Some w.lon.positive → is_table place.table ≡ true → is_code place.code ≡ true →
    IsPlaceOf (list_all is_ascii_digit (my ++ (hy ++ (mx ++ hx)))) w rest place → plain_place text ≡ Some place
plain_spelled text front latitude longitude rest dy my hy dx mx hx place w north east a b c d e is_text is_front used dya ya dxa xa la lo table code placed =
    let y_reads = rw dya at ya.5 in
    let x_reads = rw dxa at xa.5 in
    let lat_is : latitude ≡ a ∷ b ∷ ya.0 ∷ ya.1 ∷ 46 ∷ ya.2 ∷ ya.3 ∷ [] = ya.4 ∙ rw dya refl in
    let lon_is : longitude ≡ c ∷ d ∷ e ∷ xa.0 ∷ xa.1 ∷ 46 ∷ xa.2 ∷ xa.3 ∷ [] = xa.4 ∙ rw dxa refl in
    let nineteen : place.used ≡ 19 = used ∙ ap length is_front ∙ rw (lat_is, lon_is) refl in
    let digits : my ++ (hy ++ (mx ++ hx)) ≡ ya.0 ∷ ya.1 ∷ ya.2 ∷ ya.3 ∷ xa.0 ∷ xa.1 ∷ xa.2 ∷ xa.3 ∷ [] = rw (ya.6, ya.7, xa.6, xa.7) refl in
    let found = subst (λ xs. finest w (counted (list_all is_ascii_digit xs) rest) ≡ Some place) digits (finest_again (list_all is_ascii_digit (my ++ (hy ++ (mx ++ hx)))) w rest place placed) in
    rw (is_text, is_front, lat_is, lon_is)
    (plain_columns a b ya.0 ya.1 ya.2 ya.3 north place.table c d e xa.0 xa.1 xa.2 xa.3 east place.code rest w place
    (written_columns a b ya.0 ya.1 ya.2 ya.3 north place.table c d e xa.0 xa.1 xa.2 xa.3 east place.code rest w la y_reads lo x_reads table code
    (sym placed.table) (sym placed.code) (sym placed.used ∙ nineteen)) found)

pub plain_again : (text : List ℕ) (place : Place) → BeginsPlain text place → plain_place text ≡ Some place
plain_again text place begins =
    let p = begins.form_of in
    let lat = p.latitude_angle in
    let lon = p.longitude_angle in
    let dy = two lat.degrees lat.lengths.0 in
    let dx = three lon.degrees lon.lengths.0 in
    plain_spelled text begins.front p.latitude p.longitude begins.rest lat.degrees lat.minutes lat.hundredths lon.degrees lon.minutes lon.hundredths place
    p.written p.north p.east dy.0 dy.1 dx.0 dx.1 dx.2
    begins.split p.spelled begins.used dy.2 (angle_again 2 _ _ lat (whole_two _ _ _ dy.2 lat.whole))
    dx.3 (angle_again 3 _ _ lon (whole_three _ _ _ _ dx.3 lon.whole))
    (side_again 78 83 _ _ refl p.lat) (side_again 69 87 _ _ refl p.lon) p.table p.code p.placed

-- the plain form begins with a digit
pub plain_first : (text : List ℕ) (place : Place) → plain_place text ≡ Some place → is_ascii_digit (get_or text 0 0) ≡ true
unfolding plain_place written_of
plain_first [] place h = cc
plain_first (a ∷ []) place h = cc
plain_first (a ∷ b ∷ more) place h =
    let sized = cond_not_some (ltb (length (a ∷ b ∷ more)) 19) _ place h in
    let whole = bind_some (written_of (a ∷ b ∷ more)) _ place sized.1 in
    let north = bind_some (side_of 78 83 (get_or (a ∷ b ∷ more) 7 0)) _ whole.0 whole.1 in
    let lat = bind_some (angle_of north.0 (a ∷ b ∷ []) (take 5 more)) _ whole.0 north.2 in
    let d = bind_some (degrees_of (a ∷ b ∷ [])) _ lat.0 lat.1 in
    (and_parts (is_ascii_digit a) (list_all is_ascii_digit (b ∷ [])) (whole_read (a ∷ b ∷ []) d.0 d.1).0).0
