-- Canonical numbers read as the same and are no longer.
use Rattle.std.proofs.Common.{◌≡◌, ℕ, ℤ, pos, negsuc, zero, suc, ◌+◌, ◌-◌, ◌*◌, ◌/◌, ◌%◌, ◌^◌, ◌<◌, ◌≤◌, inl, inr, Bool, true, false, cond, ◌==◌, List, [], ◌∷◌, ◌++◌, Option, Some, None, drop, length, refl, sym, ap, ◌∙◌, arith, nat_le, subst, append-nil}
use Rattle.std.specs.Prelude.{option_map, ◌&&◌, ◌||◌, not}
use Rattle.std.specs.Fmt.{decimal}
use Rattle.std.specs.List.{list_all, before_first, after_first, position_or_len}
use Rattle.std.specs.Str.Parse.{digits_value, AllDigits}
use Rattle.std.specs.Char.{digit_value, is_ascii_digit}
use Rattle.std.proofs.Math.IntN.{neg_ℤ}
use Rattle.std.proofs.Math.Nat.{pow-le-pow_right, mul_comm, div-add-mod}
use Rattle.std.proofs.lemmas.Nat.{mod-mul-add}
use Rattle.std.proofs.Math.Seq.{take-length, take-append_seam, drop-append-add}
use Rattle.std.proofs.lemmas.List.Folds.{list_all-append}
use Rattle.std.proofs.lemmas.List.{length-take, length-drop, length-append}
use Rattle.std.proofs.lemmas.Bool.{cases_lt, cases_eq, ne_eqb, eq-eqb, eqb-false, le-leb, leb-true, and_parts, not-true}
use Rattle.std.proofs.lemmas.Bool.Decides.{nat_tests}
use Rattle.std.proofs.lemmas.Fmt.{decimal_is_IsNumeral, length-decimal-le}
use Rattle.aprs_base.proofs.CallLemmas.{each_weaker}
use Rattle.filter_lang.specs.Parts.{is_empty}
use Rattle.aprs_base.specs.OptionSteps.{◌>>=◌}
use Rattle.filter_lang.specs.Numbers.{are_digits, is_dot, digits_if, dotted_of, fraction_of, fraction_text, fraction_digits, places, shorter, millionths_of, at_most, size_of, has_minus, degrees_of, kilometres_of, dotted_text, millionths_text, degrees_text}
use Rattle.filter_lang.proofs.NumberLemmas.{value_bound, fraction_of-bound, fraction_end, total}
use Rattle.aprs_base.proofs.StepLemmas.{bind_some, cond_some, map_some}
use Rattle.filter_lang.proofs.Tools.{is_clean, digit_clean, Neat}

-- a number that has a digit for each place, and nothing left after the last
abbrev pub FitsPlaces : List ℕ → ℕ → Type 0
FitsPlaces [] n = n ≡ 0
FitsPlaces (p ∷ ps) n = (n / p ≤ 9) × FitsPlaces ps (n % p)

-- each place counts more than all digits after it
abbrev pub AreUnits : List ℕ → Type 0
AreUnits [] = Unit {0}
AreUnits (p ∷ ps) = (9 * total ps < p) × AreUnits ps

-- digits and dots
abbrev pub is_size : ℕ → Bool
is_size b = is_ascii_digit b || is_dot b

-- digits have no dot
pub digits_undotted : (xs : List ℕ) → list_all is_ascii_digit xs ≡ true → position_or_len is_dot xs ≡ length xs
digits_undotted [] h = refl
digits_undotted (x ∷ xs) h =
    let parts = and_parts (is_ascii_digit x) (list_all is_ascii_digit xs) h in
    let none : is_dot x ≡ false = (let digit = parts.0 in grind (arith, nat_tests)) in
    rw (none, digits_undotted xs parts.1) (omega arith)

pub digits_dotted : (xs ys : List ℕ) → list_all is_ascii_digit xs ≡ true → position_or_len is_dot (xs ++ 46 ∷ ys) ≡ length xs
digits_dotted [] ys h = refl
digits_dotted (x ∷ xs) ys h =
    let parts = and_parts (is_ascii_digit x) (list_all is_ascii_digit xs) h in
    let none : is_dot x ≡ false = (let digit = parts.0 in grind (arith, nat_tests)) in
    rw (none, digits_dotted xs ys parts.1) (omega arith)

-- what a dotted number is: digits, or digits, a dot and digits
pub record Dotted (text before after : List ℕ) : Type 0 where
  pub whole : list_all is_ascii_digit before ≡ true
  pub some : 0 < length before
  pub more : list_all is_ascii_digit after ≡ true
  pub size : length before ≤ length text
  pub rest : 0 < length after → length before + 1 + length after ≤ length text

pub number_parts : (xs : List ℕ) → are_digits xs ≡ true → (list_all is_ascii_digit xs ≡ true) × (0 < length xs)
number_parts xs h =
    let parts = and_parts (list_all is_ascii_digit xs) (not (is_empty xs)) h in
    let some : length xs ≡ 0 → ⊥ = eqb-false (length xs) 0 (not-true (is_empty xs) parts.1) in
    (parts.0, omega arith)

pub are_digits_is : (xs : List ℕ) → list_all is_ascii_digit xs ≡ true → 0 < length xs → are_digits xs ≡ true
are_digits_is xs digits some = rw (digits, ne_eqb (length xs) 0 (λ e. omega arith)) refl

pub dotted_by : (c : Bool) (text before after : List ℕ) (number : List ℕ × List ℕ) → length before ≤ length text → (0 < length after → length before + 1 + length after ≤ length text) → cond c (cond (are_digits text) (Some (text, [])) None) (digits_if before after) ≡ Some number → Dotted text number.0 number.1
dotted_by true text before after number size rest h =
    let test = cond_some (are_digits text) (Some (text, [])) number h in
    let e : (let pair : List ℕ × List ℕ = (text, []) in pair ≡ number) = cc in
    let parts = number_parts text test.0 in
    subst (λ (x : List ℕ × List ℕ). Dotted text x.0 x.1) e (record { whole = parts.0; some = parts.1; more = refl; size = omega arith; rest = λ l. absurd (omega arith) })
dotted_by false text before after number size rest h =
    let test = cond_some (are_digits before && are_digits after) (Some (before, after)) number h in
    let e : (let pair : List ℕ × List ℕ = (before, after) in pair ≡ number) = cc in
    let digits = and_parts (are_digits before) (are_digits after) test.0 in
    let first = number_parts before digits.0 in
    let second = number_parts after digits.1 in
    subst (λ (x : List ℕ × List ℕ). Dotted text x.0 x.1) e (record { whole = first.0; some = first.1; more = second.0; size = size; rest = rest })

pub dotted_is : (text : List ℕ) (number : List ℕ × List ℕ) → dotted_of text ≡ Some number → Dotted text number.0 number.1
unfolding dotted_of
dotted_is text number h =
    let p : ℕ = position_or_len is_dot text in
    let first = length-take p text in
    let second = length-drop (p + 1) text in
    dotted_by (length (before_first is_dot text) == length text) text (before_first is_dot text) (after_first is_dot text) number (omega arith) (λ l. omega arith) h

-- digits alone, and digits on both sides of a dot, are read as such numbers
pub dotted_whole : (xs : List ℕ) → list_all is_ascii_digit xs ≡ true → 0 < length xs → dotted_of xs ≡ Some (xs, [])
unfolding dotted_of
dotted_whole xs digits some = rw (digits_undotted xs digits, take-length xs, eq-eqb (length xs) (length xs) refl, are_digits_is xs digits some) refl

pub dotted_both : (xs ys : List ℕ) → list_all is_ascii_digit xs ≡ true → 0 < length xs → list_all is_ascii_digit ys ≡ true → 0 < length ys → dotted_of (xs ++ 46 ∷ ys) ≡ Some (xs, ys)
unfolding dotted_of
dotted_both xs ys digits some digits' some' =
    let longer : (length xs == length (xs ++ 46 ∷ ys)) ≡ false = ne_eqb _ _ (λ e. omega (arith, length-append xs (46 ∷ ys))) in
    rw (digits_dotted xs ys digits, take-append_seam xs (46 ∷ ys), drop-append-add xs (46 ∷ ys) 1, longer, are_digits_is xs digits some, are_digits_is ys digits' some') refl

-- the decimal text of a number
pub record IsDecimal (n : ℕ) : Type 0 where
  pub digits : list_all is_ascii_digit (decimal n) ≡ true
  pub some : 0 < length (decimal n)
  pub value : digits_value 10 (decimal n) ≡ n

pub digits_all : (ds : List ℕ) → AllDigits 10 ds → list_all is_ascii_digit ds ≡ true
digits_all [] h = refl
digits_all (d ∷ ds) h =
    let first : is_ascii_digit d ≡ true = (let small : digit_value d < 10 = h.0 in grind (arith, nat_tests)) in
    rw (first, digits_all ds h.1) refl

pub decimal_is : (n : ℕ) → n < 1000000 → IsDecimal n
decimal_is n h =
    let is = decimal_is_IsNumeral n (omega arith) in
    record { digits = digits_all (decimal n) is.0.1; some = is.0.0; value = is.1 }

-- no longer than digits of the same value
pub decimal_shorter : (ds : List ℕ) → list_all is_ascii_digit ds ≡ true → 0 < length ds → digits_value 10 ds < 1000000 → length (decimal (digits_value 10 ds)) ≤ length ds
decimal_shorter ds digits some small = length-decimal-le (length ds) (digits_value 10 ds) some (value_bound ds digits) (omega arith)

-- kilometres
pub short_value : (ds : List ℕ) (k : ℕ) → list_all is_ascii_digit ds ≡ true → length ds ≤ k → digits_value 10 ds < 10 ^ k
short_value ds k digits short =
    let bound = value_bound ds digits in
    let power : 10 ^ length ds ≤ 10 ^ k = pow-le-pow_right {n = 10} (omega arith) short in
    omega arith

pub decimal_short : (n k : ℕ) → 0 < k → n < 10 ^ k → n < 1000000 → length (decimal n) ≤ k
decimal_short n k some small wide = length-decimal-le k n some small (omega arith)

pub record KeepsKilometres (text : List ℕ) (km : ℕ) : Type 0 where
  pub again : kilometres_of (decimal km) ≡ Some km
  pub some : 0 < length (decimal km)
  pub neat : Neat text (decimal km)

-- a short number, with its digits before the dot
pub record Short (most : ℕ) (text before after : List ℕ) : Type 0 where
  pub dotted : Dotted text before after
  pub short : length before ≤ most

pub short_is : {A : Type 0} (most : ℕ) (text : List ℕ) (f : List ℕ × List ℕ → Option A) (y : A) → (dotted_of text >>= λ number. shorter most number >>= f) ≡ Some y → (number : List ℕ × List ℕ) × (Short most text number.0 number.1 × (f number ≡ Some y))
short_is most text f y h =
    let first = bind_some (dotted_of text) (λ number. shorter most number >>= f) y h in
    let number : List ℕ × List ℕ = first.0 in
    let second = bind_some (shorter most number) f y first.2 in
    let test = cond_some (nat_le (length number.0) most) (Some number) second.0 second.1 in
    let same : number ≡ second.0 = cc in
    let dotted : Dotted text number.0 number.1 = dotted_is text number first.1 in
    (number, (record { dotted = dotted; short = leb-true (length number.0) most test.0 }, ap f same ∙ second.2))

pub kilometres_again : (text : List ℕ) (km : ℕ) → kilometres_of text ≡ Some km → KeepsKilometres text km
unfolding kilometres_of
kilometres_again text km h =
    let found = short_is 5 text (λ short. Some (digits_value 10 short.0)) km h in
    let digits : List ℕ = found.0.0 in
    let is = found.1.0 in
    let value : digits_value 10 digits ≡ km = cc in
    let small = short_value digits 5 is.dotted.whole is.short in
    let ten = decimal_is km (omega arith) in
    let short : length (decimal km) ≤ 5 = decimal_short km 5 (omega arith) (omega arith) (omega arith) in
    let shortest = decimal_shorter digits is.dotted.whole is.dotted.some (omega arith) in
    record {
      again = rw (dotted_whole (decimal km) ten.digits ten.some, le-leb (length (decimal km)) 5 short, ten.value) refl;
      some = ten.some;
      neat = record { shorter = (let same = ap (λ (n : ℕ). length (decimal n)) value in let size = is.dotted.size in omega arith); clean = each_weaker is_ascii_digit is_clean digit_clean (decimal km) ten.digits };
    }

-- the digits after the dot, written and read
pub fraction_text-digits : (ps : List ℕ) (n : ℕ) → FitsPlaces ps n → list_all is_ascii_digit (fraction_text ps n) ≡ true
fraction_text-digits [] n h = refl
fraction_text-digits (p ∷ ps) n h = elim (cases_eq n 0) as (λ _. list_all is_ascii_digit (fraction_text (p ∷ ps) n) ≡ true) [
  | inl none ↦ rw none refl
  | inr some ↦
      let digit : is_ascii_digit (48 + n / p) ≡ true = (let high = h.0 in grind (arith, nat_tests)) in
      rw (ne_eqb n 0 some, digit, fraction_text-digits ps (n % p) h.1) refl
]

pub fraction_of-text : (ps : List ℕ) (n : ℕ) → FitsPlaces ps n → fraction_of ps (fraction_text ps n) ≡ n
fraction_of-text [] n h = sym h
fraction_of-text (p ∷ ps) n h = elim (cases_eq n 0) as (λ _. fraction_of (p ∷ ps) (fraction_text (p ∷ ps) n) ≡ n) [
  | inl none ↦ rw none refl
  | inr some ↦
      let digit : 48 + n / p - 48 ≡ n / p = omega arith in
      rw (ne_eqb n 0 some, digit, fraction_of-text ps (n % p) h.1) (rw (mul_comm (n / p) p) (div-add-mod n p))
]

-- no longer than digits of the same value
pub fraction_text-shorter : (ps ds : List ℕ) → AreUnits ps → list_all is_ascii_digit ds ≡ true → length (fraction_text ps (fraction_of ps ds)) ≤ length ds
fraction_text-shorter [] ds u h = omega arith
fraction_text-shorter (p ∷ ps) [] u h = omega arith
fraction_text-shorter (p ∷ ps) (d ∷ ds) u h =
    let digits = and_parts (is_ascii_digit d) (list_all is_ascii_digit ds) h in
    let bound = fraction_of-bound ps ds digits.1 in
    let below : fraction_of ps ds < p = (let apart = u.0 in omega arith) in
    let more = fraction_text-shorter ps ds u.1 digits.1 in
    rw (mod-mul-add (d - 48) p (fraction_of ps ds) below) (unless ((d - 48) * p + fraction_of ps ds == 0) _ (fraction_text ps (fraction_of ps ds)) (length ds) more)
  where
    unless : (c : Bool) (x : ℕ) (xs : List ℕ) (n : ℕ) → length xs ≤ n → length (cond c [] (x ∷ xs)) ≤ suc n
    unless true x xs n l = omega arith
    unless false x xs n l = omega arith

pub fits_places : (n : ℕ) → n < 1000000 → FitsPlaces places n
fits_places n h = (omega arith, (omega arith, (omega arith, (omega arith, (omega arith, (omega arith, omega arith))))))

pub units : AreUnits places
units = (omega arith, (omega arith, (omega arith, (omega arith, (omega arith, (omega arith, tt))))))

-- millionths without a sign
pub fraction_some : (n : ℕ) → (n ≡ 0 → ⊥) → 0 < length (fraction_text places n)
fraction_some n some = rw (ne_eqb n 0 some) (omega arith)

pub record KeepsSize (text m : List ℕ) (n : ℕ) : Type 0 where
  pub again : millionths_of m ≡ Some n
  pub shorter : length m ≤ length text
  pub digits : list_all is_size m ≡ true
  pub some : 0 < length m
  pub plain : has_minus m ≡ false

pub digits_plain : (xs ys : List ℕ) → list_all is_ascii_digit xs ≡ true → 0 < length xs → has_minus (xs ++ ys) ≡ false
digits_plain [] ys h some = absurd (omega arith)
digits_plain (x ∷ xs) ys h some = let digit = (and_parts (is_ascii_digit x) (list_all is_ascii_digit xs) h).0 in grind (arith, nat_tests)

pub digits_size : (xs : List ℕ) → list_all is_ascii_digit xs ≡ true → list_all is_size xs ≡ true
digits_size xs h = each_weaker is_ascii_digit is_size (λ b e. grind (arith, nat_tests)) xs h

-- a number without digits after the dot
pub whole_again : (text : List ℕ) (w : ℕ) → w < 1000 → length (decimal w) ≤ length text → KeepsSize text (decimal w) (w * 1000000 + 0)
unfolding millionths_of
whole_again text w small size =
    let ten = decimal_is w (omega arith) in
    let short : length (decimal w) ≤ 3 = decimal_short w 3 (omega arith) (omega arith) (omega arith) in
    record {
      again = rw (dotted_whole (decimal w) ten.digits ten.some, le-leb (length (decimal w)) 3 short, ten.value) refl;
      shorter = size;
      digits = digits_size (decimal w) ten.digits;
      some = ten.some;
      plain = rw append-nil at (digits_plain (decimal w) [] ten.digits ten.some);
    }

-- a number with such digits
pub both_again : (text : List ℕ) (w f : ℕ) → w < 1000 → f < 1000000 → (f ≡ 0 → ⊥) → length (decimal w) + 1 + length (fraction_text places f) ≤ length text → KeepsSize text (decimal w ++ 46 ∷ fraction_text places f) (w * 1000000 + f)
unfolding millionths_of
both_again text w f small fits some size =
    let ten = decimal_is w (omega arith) in
    let short : length (decimal w) ≤ 3 = decimal_short w 3 (omega arith) (omega arith) (omega arith) in
    let after : List ℕ = fraction_text places f in
    let digits = fraction_text-digits places f (fits_places f fits) in
    record {
      again = rw (dotted_both (decimal w) after ten.digits ten.some digits (fraction_some f some), le-leb (length (decimal w)) 3 short, ten.value, fraction_of-text places f (fits_places f fits)) refl;
      shorter = rw (length-append (decimal w) (46 ∷ after)) (omega arith);
      digits = rw (list_all-append is_size (decimal w) (46 ∷ after), digits_size (decimal w) ten.digits, digits_size after digits) refl;
      some = rw (length-append (decimal w) (46 ∷ after)) (omega arith);
      plain = digits_plain (decimal w) (46 ∷ after) ten.digits ten.some;
    }

pub dotted_some : (f : ℕ) → (f ≡ 0 → ⊥) → dotted_text f ≡ 46 ∷ fraction_text places f
unfolding fraction_digits
dotted_some f some = ap (λ (b : Bool). cond b [] (46 ∷ fraction_text places f)) (ne_eqb f 0 some)

pub size_by : (text before after : List ℕ) → Short 3 text before after → (w f : ℕ) → w ≡ digits_value 10 before → f ≡ fraction_of places after → w < 1000 → f < 1000000 → KeepsSize text (decimal w ++ dotted_text f) (w * 1000000 + f)
unfolding fraction_digits
size_by text before after is w f e e' small fits = elim (cases_eq f 0) as (λ _. KeepsSize text (decimal w ++ dotted_text f) (w * 1000000 + f)) [
  | inl none ↦
      let size = is.dotted.size in
      let shortest = decimal_shorter before is.dotted.whole is.dotted.some (omega arith) in
      rw (none, append-nil (decimal w)) (whole_again text w small (rw e (omega arith)))
  | inr some ↦
      let shortest = decimal_shorter before is.dotted.whole is.dotted.some (omega arith) in
      let shorter = fraction_text-shorter places after units is.dotted.more in
      let first = ap (λ (n : ℕ). length (decimal n)) e in
      let second = ap (λ (n : ℕ). length (fraction_text places n)) e' in
      let more : 0 < length after = elim (cases_lt 0 (length after)) as (λ _. 0 < length after) [ inl l ↦ l | inr l ↦ absurd (some (e' ∙ fraction_end places after (omega arith))) ] in
      let size = is.dotted.rest more in
      subst (λ (t : List ℕ). KeepsSize text (decimal w ++ t) (w * 1000000 + f)) (sym (dotted_some f some)) (both_again text w f small fits some (omega arith))
]

pub millionths_again : (text : List ℕ) (n : ℕ) → millionths_of text ≡ Some n → KeepsSize text (millionths_text n) n
unfolding millionths_of millionths_text
millionths_again text n h =
    let found = short_is 3 text (λ short. Some (digits_value 10 short.0 * 1000000 + fraction_of places short.1)) n h in
    let before : List ℕ = found.0.0 in
    let after : List ℕ = found.0.1 in
    let is : Short 3 text before after = found.1.0 in
    let value : digits_value 10 before * 1000000 + fraction_of places after ≡ n = cc in
    let small = short_value before 3 is.dotted.whole is.short in
    let fits = fraction_of-bound places after is.dotted.more in
    let w : digits_value 10 before ≡ n / 1000000 = omega arith in
    let f : fraction_of places after ≡ n % 1000000 = omega arith in
    let whole : n / 1000000 * 1000000 + n % 1000000 ≡ n = omega arith in
    rw whole at (size_by text before after is (n / 1000000) (n % 1000000) (sym w) (sym f) (omega arith) (omega arith))

-- degrees
pub record KeepsDegrees (limit : ℕ) (text : List ℕ) (z : ℤ) : Type 0 where
  pub again : degrees_of limit (degrees_text z) ≡ Some z
  pub neat : Neat text (degrees_text z)
  pub some : 0 < length (degrees_text z)

pub size_clean : (b : ℕ) → is_size b ≡ true → is_clean b ≡ true
size_clean b h = grind (arith, nat_tests)

pub size_again : (limit : ℕ) (text : List ℕ) (n : ℕ) → size_of limit text ≡ Some n → KeepsSize text (millionths_text n) n × (nat_le n limit ≡ true)
size_again limit text n h =
    let found = bind_some (millionths_of text) (at_most limit) n h in
    let test = cond_some (nat_le found.0 limit) (Some found.0) n found.2 in
    let same : found.0 ≡ n = cc in
    (millionths_again text n (found.1 ∙ ap (λ (m : ℕ). Some m) same), rw same at test.0)

pub degrees_plus : (limit : ℕ) (text : List ℕ) (n : ℕ) → KeepsSize text (millionths_text n) n → nat_le n limit ≡ true → KeepsDegrees limit text (pos n)
unfolding degrees_of degrees_text
degrees_plus limit text n keeps within = record {
  again = rw (keeps.plain, keeps.again, within) refl;
  neat = record { shorter = keeps.shorter; clean = each_weaker is_size is_clean size_clean (millionths_text n) keeps.digits };
  some = keeps.some;
}

pub degrees_minus : (limit : ℕ) (text : List ℕ) (n : ℕ) → length (drop 1 text) + 1 ≤ length text → KeepsSize (drop 1 text) (millionths_text (suc n)) (suc n) → nat_le (suc n) limit ≡ true → KeepsDegrees limit text (negsuc n)
unfolding degrees_of degrees_text
degrees_minus limit text n size keeps within = record {
  again = rw (keeps.again, within) refl;
  neat = record { shorter = (let less = keeps.shorter in omega arith); clean = each_weaker is_size is_clean size_clean (millionths_text (suc n)) keeps.digits };
  some = omega arith;
}

pub minus_size : (text : List ℕ) → has_minus text ≡ true → length (drop 1 text) + 1 ≤ length text
minus_size [] h = cc
minus_size (b ∷ text) h = omega arith

pub degrees_again : (limit : ℕ) (text : List ℕ) (z : ℤ) → degrees_of limit text ≡ Some z → KeepsDegrees limit text z
unfolding degrees_of
degrees_again limit text z h = by_sign (has_minus text) refl h
  where
    zero_or : (n : ℕ) → length (drop 1 text) + 1 ≤ length text → size_of limit (drop 1 text) ≡ Some n → KeepsDegrees limit text (neg_ℤ (pos n))
    zero_or zero size found =
        let keeps = size_again limit (drop 1 text) zero found in
        let shorter = keeps.0.shorter in
        degrees_plus limit text zero (record { again = keeps.0.again; shorter = omega arith; digits = keeps.0.digits; some = keeps.0.some; plain = keeps.0.plain }) keeps.1
    zero_or (suc n) size found = let keeps = size_again limit (drop 1 text) (suc n) found in degrees_minus limit text n size keeps.0 keeps.1

    by_sign : (c : Bool) → has_minus text ≡ c → cond c (option_map (λ n. neg_ℤ (pos n)) (size_of limit (drop 1 text))) (option_map pos (size_of limit text)) ≡ Some z → KeepsDegrees limit text z
    by_sign true minus h' =
        let found = map_some (λ (n : ℕ). neg_ℤ (pos n)) (size_of limit (drop 1 text)) z h' in
        subst (λ (y : ℤ). KeepsDegrees limit text y) found.2 (zero_or found.0 (minus_size text minus) found.1)
    by_sign false minus h' =
        let found = map_some pos (size_of limit text) z h' in
        let keeps = size_again limit text found.0 found.1 in
        subst (λ (y : ℤ). KeepsDegrees limit text y) found.2 (degrees_plus limit text found.0 keeps.0 keeps.1)
