-- What the definition reads is what the grammar writes.
use Rattle.std.proofs.Common.{◌≡◌, ℕ, ◌+◌, ◌-◌, ◌*◌, ◌<◌, ◌≤◌, Bool, true, false, cond, not, ◌&&◌, ◌||◌, ◌⊎◌, inl, inr, ltb, leb, eqb, List, [], ◌∷◌, length, take, drop, get_or, Some, None, refl, sym, ap, subst, ◌∙◌, arith}
use Rattle.std.specs.List.{list_all, list_any}
use Rattle.std.specs.declared.option.Option.{Option}
use Rattle.std.proofs.Math.Nat.{add-sub_cancel, sub-add_cancel}
use Rattle.std.proofs.lemmas.Bool.Decides.{nat_tests}
use Rattle.std.proofs.lemmas.Option.{same_Some}
use Rattle.std.proofs.lemmas.Bool.{eqb-true, false≢true, le-ltb, leb-false, leb-true, lt-ltb, ltb-false, ltb-true, and_parts, cond-false, cond-true, not-false, or_cases, or_parts, and_cases}
use Rattle.aprs_base.specs.declared.packets.Place.{Place}
use Rattle.aprs_position.specs.MarkGrammar.{IsPlaceOf}
use Rattle.aprs_position.specs.Places.{is_code, is_table}
use Rattle.aprs_position.specs.Written.{finest}
use Rattle.aprs_position.specs.declared.written.Angle.{Angle}
use Rattle.aprs_position.specs.declared.written.Written.{Written}
use Rattle.aprs_position.proofs.WrittenLemmas.{counted, finest_again, finest_read}
use Rattle.aprs_base.proofs.StepLemmas.{bind_some, cond_not_some, cond_some, map_some}
use Rattle.aprs_position.proofs.Steps.{chosen}
use Rattle.mic_e.specs.Grammar.{IsDegrees, IsMinutes, Says, WritesMicE}
use Rattle.mic_e.specs.Grammar.Says.{custom_blank, custom_letter, figure, plain_blank, standard_blank, standard_letter}
use Rattle.mic_e.specs.MicE.{between, degrees_of, digit_of, from_equator, from_greenwich, is_blank_letter, is_custom, is_mark, is_set, late_digit_of, mark_after, minutes_of, pair, place_of, written_of}

angle_same : (positive : Bool) (d e m n y z : ℕ) → d ≡ e → m ≡ n → y ≡ z →
    ◌≡◌ {A = Angle} (record { positive = positive; degrees = d; hundredths = m * 100 + y }) (record { positive = positive; degrees = e; hundredths = n * 100 + z })
angle_same positive d e m n y z de mn yz = rw (de, mn, yz) refl

range : (low high b : ℕ) → between low high b ≡ true → (low ≤ b) × (b ≤ high)
range low high b h = let tests = and_parts (leb low b) (leb b high) h in (leb-true _ _ tests.0, leb-true _ _ tests.1)

-- a byte's digit, its place and its bit
blank_read : (b n : ℕ) → cond (eqb b 75 || eqb b 76 || eqb b 90) (Some 0) None ≡ Some n → Says b n (is_custom b) (is_set b)
blank_read b n h =
    let test = cond_some (eqb b 75 || eqb b 76 || eqb b 90) (Some 0) n h in
    let zero : n ≡ 0 = sym (same_Some _ _ test.1) in
    elim (or_cases (eqb b 75 || eqb b 76) (eqb b 90) test.0) [
      | inr z ↦ let is = eqb-true b 90 z in standard_blank is zero (ap is_custom is) (ap is_set is)
      | inl front ↦ elim (or_cases (eqb b 75) (eqb b 76) front) [
        | inl k ↦ let is = eqb-true b 75 k in custom_blank is zero (ap is_custom is) (ap is_set is)
        | inr l ↦ let is = eqb-true b 76 l in plain_blank is zero (ap is_custom is) (ap is_set is)
      ]
    ]

letter_read : (b n : ℕ) → digit_of b ≡ Some n → Says b n (is_custom b) (is_set b)
unfolding digit_of
letter_read b n h =
    elim (chosen (between 48 57 b) (Some (b - 48)) _ (Some n) h) [
      | inl first ↦
          let r = range 48 57 b first.0 in
          let is : b - 48 ≡ n = same_Some _ _ first.1 in
          figure (omega arith) (omega arith) (grind (arith, nat_tests)) (grind (arith, nat_tests))
      | inr more ↦ elim (chosen (between 65 74 b) (Some (b - 65)) _ (Some n) more.1) [
        | inl second ↦
            let r = range 65 74 b second.0 in
            let is : b - 65 ≡ n = same_Some _ _ second.1 in
            custom_letter (omega arith) (omega arith) (grind (arith, nat_tests)) (grind (arith, nat_tests))
        | inr others ↦ elim (chosen (between 80 89 b) (Some (b - 80)) _ (Some n) others.1) [
          | inl third ↦
              let r = range 80 89 b third.0 in
              let is : b - 80 ≡ n = same_Some _ _ third.1 in
              standard_letter (omega arith) (omega arith) (grind (arith, nat_tests)) (grind (arith, nat_tests))
          | inr blanks ↦ blank_read b n blanks.1
        ]
      ]
    ]

letter_again : (b n : ℕ) (early set : Bool) → Says b n early set → (digit_of b ≡ Some n) × (is_custom b ≡ early) × (is_set b ≡ set)
unfolding digit_of
letter_again b n early set (figure below is e s) = (grind (arith, nat_tests), grind (arith, nat_tests), grind (arith, nat_tests))
letter_again b n early set (custom_letter below is e s) = (grind (arith, nat_tests), grind (arith, nat_tests), grind (arith, nat_tests))
letter_again b n early set (standard_letter below is e s) = (grind (arith, nat_tests), grind (arith, nat_tests), grind (arith, nat_tests))
letter_again b n early set (custom_blank is zero e s) = (ap digit_of is ∙ ap Some (sym zero), ap is_custom is ∙ sym e, ap is_set is ∙ sym s)
letter_again b n early set (plain_blank is zero e s) = (ap digit_of is ∙ ap Some (sym zero), ap is_custom is ∙ sym e, ap is_set is ∙ sym s)
letter_again b n early set (standard_blank is zero e s) = (ap digit_of is ∙ ap Some (sym zero), ap is_custom is ∙ sym e, ap is_set is ∙ sym s)

late_read : (b n : ℕ) → late_digit_of b ≡ Some n → Says b n false (is_set b)
unfolding late_digit_of
late_read b n h =
    let test = cond_not_some (is_custom b) (digit_of b) n h in
    subst (λ e. Says b n e (is_set b)) test.0 (letter_read b n test.1)

late_again : (b n : ℕ) (set : Bool) → Says b n false set → (late_digit_of b ≡ Some n) × (is_set b ≡ set)
unfolding late_digit_of
late_again b n set says =
    let all = letter_again b n false set says in
    (cond-false _ _ _ all.1 ∙ all.0, all.2)

pair_read : (p q : Option ℕ) (n : ℕ) → pair p q ≡ Some n → (t o : ℕ) × (p ≡ Some t) × (q ≡ Some o) × (n ≡ t * 10 + o)
unfolding pair
pair_read p q n h =
    let t = bind_some p _ n h in
    let o = map_some _ q n t.2 in
    (t.0, o.0, t.1, o.1, sym o.2)

outside : (low high b : ℕ) → between low high b ≡ false → (b < low) ⊎ (high < b)
outside low high b h =
    elim (and_cases (leb low b) (leb b high) h) [
      | inl before ↦ inl (leb-false _ _ before)
      | inr after ↦ inr (leb-false _ _ after)
    ]

same_degrees : (d : ℕ) → d < 200 → (d < 180) ⊎ (189 < d) → (d < 190) ⊎ (199 < d) → d ≡ degrees_of d → IsDegrees d (degrees_of d)
same_degrees d small (inl below) other is = inl (below, sym is)
same_degrees d small (inr above) (inl other) is = absurd (omega arith)
same_degrees d small (inr above) (inr other) is = absurd (omega arith)

degrees_read : (d : ℕ) → d < 200 → IsDegrees d (degrees_of d)
degrees_read d small =
    elim (chosen (between 180 189 d) (d - 80) _ (degrees_of d) refl) [
      | inl hundreds ↦ let r = range 180 189 d hundreds.0 in let is = hundreds.1 in inr (inl (r.0, omega arith, omega arith))
      | inr more ↦ elim (chosen (between 190 199 d) (d - 190) d (degrees_of d) more.1) [
        | inl ones ↦ let r = range 190 199 d ones.0 in let is = ones.1 in inr (inr (r.0, omega arith))
        | inr same ↦ same_degrees d small (outside 180 189 d more.0) (outside 190 199 d same.0) same.1
      ]
    ]

degrees_again : (d n : ℕ) → d < 200 → IsDegrees d n → degrees_of d ≡ n
degrees_again d n small (inl same) = grind (arith, nat_tests)
degrees_again d n small (inr (inl hundreds)) = grind (arith, nat_tests)
degrees_again d n small (inr (inr ones)) = grind (arith, nat_tests)

minutes_read : (m : ℕ) → IsMinutes m (minutes_of m)
minutes_read m =
    elim (chosen (ltb m 60) m (m - 60) (minutes_of m) refl) [
      | inl same ↦ inl (ltb-true _ _ same.0, sym same.1)
      | inr more ↦ let low = ltb-false _ _ more.0 in let is = more.1 in inr (low, omega arith)
    ]

minutes_again : (m n : ℕ) → IsMinutes m n → minutes_of m ≡ n
minutes_again m n (inl same) = grind (arith, nat_tests)
minutes_again m n (inr more) = grind (arith, nat_tests)

-- three bytes of longitude
record IsSent (positive : Bool) (text : List ℕ) (more : ℕ) (angle : Angle) : Type 0 where
  x : ℕ
  y : ℕ
  z : ℕ
  spelled : text ≡ (x + 28) ∷ (y + 28) ∷ (z + 28) ∷ []
  small : (x < 100) × (y < 100) × (z < 100)
  angle_is : angle ≡ record { positive = positive; degrees = degrees_of (x + more); hundredths = minutes_of y * 100 + z }

sent_read : (positive : Bool) (text : List ℕ) (more : ℕ) (angle : Angle) → from_greenwich positive more text ≡ Some angle → IsSent positive text more angle
unfolding from_greenwich
sent_read positive (a ∷ b ∷ c ∷ []) more angle h =
    let test = cond_some (list_all (between 28 127) (a ∷ b ∷ c ∷ [])) _ angle h in
    let a_all = and_parts (between 28 127 a) (list_all (between 28 127) (b ∷ c ∷ [])) test.0 in
    let b_all = and_parts (between 28 127 b) (list_all (between 28 127) (c ∷ [])) a_all.1 in
    let c_all = and_parts (between 28 127 c) true b_all.1 in
    let ar = range 28 127 a a_all.0 in
    let br = range 28 127 b b_all.0 in
    let cr = range 28 127 c c_all.0 in
    record {
      x = a - 28;
      y = b - 28;
      z = c - 28;
      spelled = rw (sub-add_cancel ar.0, sub-add_cancel br.0, sub-add_cancel cr.0) refl;
      small = (omega arith, omega arith, omega arith);
      angle_is = sym (same_Some _ _ test.1);
    }
sent_read positive _ more angle h = cc

sent_again : (positive : Bool) (x y z more degrees minutes : ℕ) → x < 100 → y < 100 → z < 100 → degrees_of (x + more) ≡ degrees → minutes_of y ≡ minutes →
    from_greenwich positive more ((x + 28) ∷ (y + 28) ∷ (z + 28) ∷ []) ≡ Some (record { positive = positive; degrees = degrees; hundredths = minutes * 100 + z })
unfolding from_greenwich
sent_again positive x y z more degrees minutes lx ly lz d m =
    let digits : list_all (between 28 127) ((x + 28) ∷ (y + 28) ∷ (z + 28) ∷ []) ≡ true = grind (arith, nat_tests) in
    let dl : degrees_of (x + 28 - 28 + more) ≡ degrees = ap (λ n. degrees_of (n + more)) (add-sub_cancel x 28) ∙ d in
    let ml : minutes_of (y + 28 - 28) ≡ minutes = ap minutes_of (add-sub_cancel y 28) ∙ m in
    cond-true _ _ _ digits ∙ ap Some (angle_same positive _ _ _ _ _ _ dl ml (add-sub_cancel z 28))

latitude_again : (a b c d e f p q r s t u : ℕ) → digit_of a ≡ Some p → digit_of b ≡ Some q → digit_of c ≡ Some r →
    late_digit_of d ≡ Some s → late_digit_of e ≡ Some t → late_digit_of f ≡ Some u → r * 10 + s < 60 →
    from_equator (a ∷ b ∷ c ∷ d ∷ e ∷ f ∷ []) ≡ Some (record { positive = is_set d; degrees = p * 10 + q; hundredths = (r * 10 + s) * 100 + (t * 10 + u) })
unfolding from_equator pair
latitude_again a b c d e f p q r s t u ap' bq cr ds et fu below = rw (ap', bq, cr, ds, et, fu, lt-ltb _ _ below) refl

nine_cells : (body : List ℕ) → ltb (length body) 9 ≡ false →
    (body ≡ get_or body 0 0 ∷ get_or body 1 0 ∷ get_or body 2 0 ∷ get_or body 3 0 ∷ get_or body 4 0 ∷ get_or body 5 0 ∷ get_or body 6 0 ∷ get_or body 7 0 ∷ get_or body 8 0 ∷ drop 9 body)
    × (get_or body 1 0 ∷ get_or body 2 0 ∷ get_or body 3 0 ∷ [] ≡ take 3 (drop 1 body))
nine_cells (a ∷ b ∷ c ∷ d ∷ e ∷ f ∷ g ∷ h ∷ i ∷ more) long = (refl, refl)
nine_cells _ long = absurd (false≢true (sym long))

joined : (body rest : List ℕ) (m g h i s t u j k x y z code table : ℕ) → body ≡ m ∷ g ∷ h ∷ i ∷ s ∷ t ∷ u ∷ j ∷ k ∷ rest →
    g ∷ h ∷ i ∷ [] ≡ x ∷ y ∷ z ∷ [] → code ≡ j → table ≡ k → body ≡ m ∷ x ∷ y ∷ z ∷ s ∷ t ∷ u ∷ code ∷ table ∷ rest
joined body rest m g h i s t u j k x y z code table cells three c t' = cc

mark_read : (m : ℕ) → is_mark m ≡ true → (m ≡ 96) ⊎ (m ≡ 39)
mark_read m h = elim (or_cases (eqb m 96) (eqb m 39) h) [ inl first ↦ inl (eqb-true _ _ first) | inr second ↦ inr (eqb-true _ _ second) ]

mark_again : (m : ℕ) → (m ≡ 96) ⊎ (m ≡ 39) → is_mark m ≡ true
mark_again m (inl first) = ap is_mark first
mark_again m (inr second) = ap is_mark second

abbrev hundreds : Bool → ℕ
hundreds h = cond h 100 0

sent_small : (x : ℕ) (hundred : Bool) → x < 100 → x + cond hundred 100 0 < 200
sent_small x true h = omega arith
sent_small x false h = omega arith

-- what is written, with equal parts
written_same : (lat south lon east : Angle) (t table c code : ℕ) → lat ≡ south → lon ≡ east → t ≡ table → c ≡ code →
    ◌≡◌ {A = Written} (record { lat = lat; lon = lon; table = t; code = c; used = 9 }) (record { lat = south; lon = east; table = table; code = code; used = 9 })
written_same lat south lon east t table c code ls le tt' cc' = rw (ls, le, tt', cc') refl

read_six : (a b c d e f : ℕ) (body : List ℕ) (place : Place) → place_of (a ∷ b ∷ c ∷ d ∷ e ∷ f ∷ []) body ≡ Some place →
    WritesMicE (a ∷ b ∷ c ∷ d ∷ e ∷ f ∷ []) body place
unfolding place_of written_of mark_after from_equator
read_six a b c d e f body place h =
    let sized = cond_not_some (ltb (length body) 9 || not (is_mark (get_or body 0 0))) _ place h in
    let tests = or_parts (ltb (length body) 9) (not (is_mark (get_or body 0 0))) sized.0 in
    let written = bind_some (written_of (a ∷ b ∷ c ∷ d ∷ e ∷ f ∷ []) body) _ place sized.1 in
    let lat = bind_some (from_equator (a ∷ b ∷ c ∷ d ∷ e ∷ f ∷ [])) _ written.0 written.1 in
    let lon = bind_some (from_greenwich (not (is_set f)) (cond (is_set e) 100 0) (take 3 (drop 1 body))) _ written.0 lat.2 in
    let symbol = cond_some (is_code (get_or body 7 0) && is_table (get_or body 8 0)) _ written.0 lon.2 in
    let both_pass = and_parts (is_code (get_or body 7 0)) (is_table (get_or body 8 0)) symbol.0 in
    let exact = not (list_any is_blank_letter (c ∷ d ∷ e ∷ f ∷ [])) in
    let n = finest_read exact (record { lat = lat.0; lon = lon.0; table = get_or body 8 0; code = get_or body 7 0; used = 9 }) (drop 9 body) place
    (ap (λ w. finest w (counted exact (drop 9 body))) (same_Some _ _ symbol.1) ∙ written.2) in
    let whole = bind_some (pair (digit_of a) (digit_of b)) _ lat.0 lat.1 in
    let before = bind_some (pair (digit_of c) (late_digit_of d)) _ lat.0 whole.2 in
    let after = bind_some (pair (late_digit_of e) (late_digit_of f)) _ lat.0 before.2 in
    let test = cond_some (ltb before.0 60) (Some (record { positive = is_set d; degrees = whole.0; hundredths = before.0 * 100 + after.0 })) lat.0 after.2 in
    let p = pair_read (digit_of a) (digit_of b) whole.0 whole.1 in
    let r = pair_read (digit_of c) (late_digit_of d) before.0 before.1 in
    let t = pair_read (late_digit_of e) (late_digit_of f) after.0 after.1 in
    let v = sent_read (not (is_set f)) (take 3 (drop 1 body)) (cond (is_set e) 100 0) lon.0 lon.1 in
    let cells = nine_cells body tests.0 in
    let lat_is = sym (same_Some _ _ test.1) ∙ angle_same (is_set d) whole.0 (p.0 * 10 + p.1) before.0 (r.0 * 10 + r.1) after.0 (t.0 * 10 + t.1) p.4 r.4 t.4 in
    record {
      a = a;
      b = b;
      c = c;
      d = d;
      e = e;
      f = f;
      base_is = refl;
      tens_of_degrees = p.0;
      degrees = p.1;
      tens = r.0;
      minutes = r.1;
      tenths = t.0;
      hundredths = t.1;
      north = is_set d;
      hundred = is_set e;
      west = is_set f;
      a_says = (is_custom a, is_set a, letter_read a p.0 p.2);
      b_says = (is_custom b, is_set b, letter_read b p.1 p.3);
      c_says = (is_custom c, is_set c, letter_read c r.0 r.2);
      d_says = late_read d r.1 r.3;
      e_says = late_read e t.0 t.2;
      f_says = late_read f t.1 t.3;
      below = subst (λ n. n < 60) r.4 (ltb-true _ _ test.0);
      mark = get_or body 0 0;
      x = v.x;
      y = v.y;
      z = v.z;
      s = get_or body 4 0;
      t = get_or body 5 0;
      u = get_or body 6 0;
      rest = drop 9 body;
      body_is = joined _ _ _ _ _ _ _ _ _ _ _ _ _ _ _ _ cells.0 (cells.1 ∙ v.spelled) n.code n.table;
      mark_is = mark_read _ (not-false _ tests.1);
      sent = v.small;
      degrees_east = degrees_of (v.x + cond (is_set e) 100 0);
      minutes_east = minutes_of v.y;
      degrees_are = degrees_read _ (sent_small v.x (is_set e) v.small.0);
      minutes_are = minutes_read v.y;
      table = rw n.table both_pass.1;
      code = rw n.code both_pass.0;
      placed = subst (λ w. IsPlaceOf exact w (drop 9 body) place) (written_same _ _ _ _ _ _ _ _ lat_is v.angle_is (sym n.table) (sym n.code)) n;
    }

-- no place comes of a base that isn't six bytes
no_place : (test : Bool) (place : Place) → cond {A = Option Place} test None None ≡ Some place → ⊥
no_place true place h = cc
no_place false place h = cc

pub place_read : (base body : List ℕ) (place : Place) → place_of base body ≡ Some place → WritesMicE base body place
unfolding place_of written_of from_equator
place_read (a ∷ b ∷ c ∷ d ∷ e ∷ f ∷ []) body place h = read_six a b c d e f body place h
place_read _ body place h = absurd (no_place _ place h)

columns : (a b c d e f mark x y z s t u : ℕ) (rest : List ℕ) (place : Place) (lat lon : Angle) → is_mark mark ≡ true →
    from_equator (a ∷ b ∷ c ∷ d ∷ e ∷ f ∷ []) ≡ Some lat → from_greenwich (not (is_set f)) (cond (is_set e) 100 0) (x ∷ y ∷ z ∷ []) ≡ Some lon →
    is_code place.code ≡ true → is_table place.table ≡ true →
    finest (record { lat = lat; lon = lon; table = place.table; code = place.code; used = 9 }) (counted (not (list_any is_blank_letter (c ∷ d ∷ e ∷ f ∷ []))) rest) ≡ Some place →
    place_of (a ∷ b ∷ c ∷ d ∷ e ∷ f ∷ []) (mark ∷ x ∷ y ∷ z ∷ s ∷ t ∷ u ∷ place.code ∷ place.table ∷ rest) ≡ Some place
unfolding place_of written_of mark_after
columns a b c d e f mark x y z s t u rest place lat lon marked la lo code table placed =
    let long : ltb (length (mark ∷ x ∷ y ∷ z ∷ s ∷ t ∷ u ∷ place.code ∷ place.table ∷ rest)) 9 ≡ false = le-ltb _ _ (omega arith) in
    rw (long, marked, la, lo, code, table) placed

pub place_again : (base body : List ℕ) (place : Place) → WritesMicE base body place → place_of base body ≡ Some place
place_again base body place w =
    let la = letter_again w.a _ _ _ w.a_says.2 in
    let lb = letter_again w.b _ _ _ w.b_says.2 in
    let lc = letter_again w.c _ _ _ w.c_says.2 in
    let ld = late_again w.d _ _ w.d_says in
    let le = late_again w.e _ _ w.e_says in
    let lf = late_again w.f _ _ w.f_says in
    let six = w.a ∷ w.b ∷ w.c ∷ w.d ∷ w.e ∷ w.f ∷ [] in
    let sent = (w.x + 28) ∷ (w.y + 28) ∷ (w.z + 28) ∷ [] in
    let east : Angle = record { positive = not w.west; degrees = w.degrees_east; hundredths = w.minutes_east * 100 + w.z } in
    let lat = subst (λ north. from_equator six ≡ Some (record { positive = north; degrees = w.tens_of_degrees * 10 + w.degrees; hundredths = (w.tens * 10 + w.minutes) * 100 + (w.tenths * 10 + w.hundredths) })) ld.1
    (latitude_again w.a w.b w.c w.d w.e w.f _ _ _ _ _ _ la.0 lb.0 lc.0 ld.0 le.0 lf.0 w.below) in
    let lon_sent = sent_again (not w.west) w.x w.y w.z (hundreds w.hundred) w.degrees_east w.minutes_east w.sent.0 w.sent.1 w.sent.2
    (degrees_again _ _ (sent_small w.x w.hundred w.sent.0) w.degrees_are) (minutes_again _ _ w.minutes_are) in
    let lon = subst (λ west. from_greenwich (not west) (hundreds (is_set w.e)) sent ≡ Some east) (sym lf.1)
    (subst (λ hundred. from_greenwich (not w.west) (hundreds hundred) sent ≡ Some east) (sym le.1) lon_sent) in
    let found = finest_again (not (list_any is_blank_letter (w.c ∷ w.d ∷ w.e ∷ w.f ∷ []))) _ w.rest place w.placed in
    ap (λ b. place_of b body) w.base_is ∙ ap (λ t. place_of six t) w.body_is
    ∙ columns w.a w.b w.c w.d w.e w.f w.mark (w.x + 28) (w.y + 28) (w.z + 28) w.s w.t w.u w.rest place _ east (mark_again _ w.mark_is) lat lon w.code w.table found
