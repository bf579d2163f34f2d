-- The values of digits.
use Rattle.std.proofs.Common.{◌≡◌, ℕ, ◌+◌, ◌-◌, ◌*◌, ◌^◌, ◌<◌, ◌≤◌, true, List, [], ◌∷◌, length, take, drop, get_or, arith, refl, drop-cons, add-one}
use Rattle.std.specs.List.{list_all}
use Rattle.std.specs.Str.Parse.{digits_value, AllDigits}
use Rattle.std.specs.Char.{digit_value, is_ascii_digit}
use Rattle.std.proofs.lemmas.Bool.Decides.{nat_tests}
use Rattle.std.proofs.lemmas.Int.Digits.{digits_value-lt, digits_value_more}
use Rattle.std.proofs.lemmas.List.{take_rest}
use Rattle.std.proofs.lemmas.Str.Parse.{digits_value-take-le}
use Rattle.std.proofs.Math.Nat.{mul-le-mul_right, pow-le-pow_right}
use Rattle.std.proofs.lemmas.List.Sums.{AllPass-from_list_all}
use Rattle.filter_lang.specs.Numbers.{fraction_of, places}

pub digit_is : (d : ℕ) → is_ascii_digit d ≡ true → (digit_value d ≡ d - 48) × (48 ≤ d) × (d ≤ 57)
digit_is d h = grind (arith, nat_tests)

pub all_digits_are : (ds : List ℕ) → list_all is_ascii_digit ds ≡ true → AllDigits 10 ds
all_digits_are [] h = tt
all_digits_are (d ∷ ds) h =
    let first : is_ascii_digit d ≡ true = grind (arith, nat_tests) in
    let rest : list_all is_ascii_digit ds ≡ true = grind (arith, nat_tests) in
    (omega (arith, digit_is d first), all_digits_are ds rest)

pub digit_at : (ds : List ℕ) (i : ℕ) → list_all is_ascii_digit ds ≡ true → i < length ds → (48 ≤ get_or ds i 0) × (get_or ds i 0 ≤ 57) × (digit_value (get_or ds i 0) ≡ get_or ds i 0 - 48)
digit_at ds i h lt = let is = digit_is (get_or ds i 0) (AllPass-from_list_all is_ascii_digit ds h i 0 lt) in (is.1, is.2, is.0)

-- one more digit
pub value_more : (ds : List ℕ) (i : ℕ) → list_all is_ascii_digit ds ≡ true → i < length ds → digits_value 10 (take (i + 1) ds) ≡ digits_value 10 (take i ds) * 10 + (get_or ds i 0 - 48)
value_more ds i h lt = rw (digits_value_more 10 ds i lt, (digit_at ds i h lt).2)

pub value_bound : (ds : List ℕ) → list_all is_ascii_digit ds ≡ true → digits_value 10 ds < 10 ^ length ds
value_bound ds h = digits_value-lt 10 ds (all_digits_are ds h)

pub value_small : (ds : List ℕ) (i : ℕ) → list_all is_ascii_digit ds ≡ true → length ds ≤ 5 → digits_value 10 (take i ds) < 100000
value_small ds i h short =
    let whole = value_bound ds h in
    let part = digits_value-take-le 10 ds i (omega arith) in
    let power : 10 ^ length ds ≤ 10 ^ 5 = pow-le-pow_right {n = 10} (omega arith) short in
    omega arith

abbrev pub total : List ℕ → ℕ
total [] = 0
total (p ∷ ps) = p + total ps

pub fraction_of-bound : (ps ds : List ℕ) → list_all is_ascii_digit ds ≡ true → fraction_of ps ds ≤ 9 * total ps
fraction_of-bound [] ds h = omega arith
fraction_of-bound (p ∷ ps) [] h = omega arith
fraction_of-bound (p ∷ ps) (d ∷ ds) h =
    let first : is_ascii_digit d ≡ true = grind (arith, nat_tests) in
    let rest : list_all is_ascii_digit ds ≡ true = grind (arith, nat_tests) in
    let more = fraction_of-bound ps ds rest in
    let digit = digit_is d first in
    let here : (d - 48) * p ≤ 9 * p = mul-le-mul_right p (omega arith) in
    omega arith

-- the first digit and the others, as a match on a slice gives them
pub fraction_step : (i : ℕ) (ds : List ℕ) → i < 6 → 1 ≤ length ds → fraction_of (drop i places) ds ≡ (get_or ds 0 0 - 48) * get_or places i 0 + fraction_of (drop (i + 1) places) (take (length ds - 1) (drop 1 ds))
fraction_step i [] h some = absurd (omega arith)
fraction_step i (d ∷ ds) h some = rw (take_rest (d ∷ ds) 1, drop-cons places i 0 h, add-one i) refl

pub digits_step : (ds : List ℕ) → 1 ≤ length ds → list_all is_ascii_digit ds ≡ true → list_all is_ascii_digit (take (length ds - 1) (drop 1 ds)) ≡ true
digits_step [] some h = absurd (omega arith)
digits_step (d ∷ ds) some h = rw (take_rest (d ∷ ds) 1) (grind (arith, nat_tests))

pub fraction_end : (ps ds : List ℕ) → length ds < 1 → fraction_of ps ds ≡ 0
fraction_end [] ds h = refl
fraction_end (p ∷ ps) [] h = refl
fraction_end (p ∷ ps) (d ∷ ds) h = absurd (omega arith)
