-- Numbers, times and addresses that are written read as themselves, and what is read is in its range.
use Rattle.std.proofs.Common.{◌≡◌, ℕ, ◌-◌, ◌*◌, ◌<◌, ◌≤◌, ◌&&◌, ◌||◌, ◌==◌, inl, inr, Bool, true, false, cond, List, [], ◌∷◌, ◌++◌, Option, Some, None, IfSome, All, take, length, refl, sym, ap, subst, arith, nat_le}
use Rattle.std.specs.Prelude.{not, codes, slice_index}
use Rattle.std.specs.Fmt.{decimal}
use Rattle.std.specs.List.{list_all, slice_split}
use Rattle.std.proofs.lemmas.Bool.{and_parts, cases_eq, cond_both, ne_eqb, le-leb, leb-true, or_left, or_right}
use Rattle.std.proofs.lemmas.Bool.Decides.{nat_tests}
use Rattle.std.proofs.lemmas.Fmt.{decimal_digit, decimal_nonempty, digits_decimal, digits_value-decimal, first_decimal, length-decimal-le}
use Rattle.std.proofs.lemmas.List.{length-append}
use Rattle.std.proofs.lemmas.List.Folds.{list_all-append}
use Rattle.std.proofs.lemmas.List.Splits.{slice_split_at, slice_split_none}
use Rattle.std.proofs.lemmas.List.Sums.{AllPass-from_list_all}
use Rattle.std.proofs.lemmas.Str.Parse.{IsNumeralModel, digits_value_short, numerals_by_fold, tells_all_ascii_digits}
use Rattle.std.specs.Char.{is_ascii_digit}
use Rattle.login_pass.specs.Login.{is_code_number, number_from}
use Rattle.aprs_conf.specs.Arguments.{are_digits, code_of, four, ip_of, is_dot, is_plain, last_in, number_within, octet_of, if_within, octets_in, same, seconds_of, time_in, time_of, unit_of, window_of}
use Rattle.aprs_conf.specs.Sound.{IsWithin}
use Rattle.aprs_conf.specs.Writing.{dotted, ip_text, is_bare}
use Rattle.aprs_conf.proofs.WrittenLines.{cond_same, without}
use Rattle.aprs_conf.proofs.WrittenWords.{is_word, no_feed, no_gap, no_quote}

-- what holds of a value that is there only where a test passes
pub some_where : {A : Type 0} (P : A → Type 0) (b : Bool) (x : A) → (b ≡ true → P x) → IfSome (cond b (Some x) None) P
some_where P b x is = cond_both b (Some x) None (λ o. IfSome o P) is (λ _. tt)

-- ---- digits

abbrev are_all_digits : List ℕ → Type 0
are_all_digits ds = list_all is_ascii_digit ds ≡ true

-- digits and their number are std's
numerals : IsNumeralModel are_all_digits (number_from 0)
numerals = numerals_by_fold are_all_digits tells_all_ascii_digits number_from (record { empty = λ _. refl; more = λ _ _ _ _. refl })

-- a number of 32 bits
module _ (n : ℕ) (small : n < 4294967296) where
  pub decimal_digits : list_all is_ascii_digit (decimal n) ≡ true
  decimal_digits = digits_decimal numerals n (omega arith)

  decimal_value : number_from 0 (decimal n) ≡ n
  decimal_value = digits_value-decimal numerals n (omega arith)

  pub decimal_some : 0 < length (decimal n)
  decimal_some = decimal_nonempty n (omega arith)

-- a weaker test of each byte
all_weaker : (p q : ℕ → Bool) → ((b : ℕ) → p b ≡ true → q b ≡ true) → (bs : List ℕ) → list_all p bs ≡ true → list_all q bs ≡ true
all_weaker p q each [] h = refl
all_weaker p q each (b ∷ bs) h = let parts = and_parts (p b) (list_all p bs) h in rw (each b parts.0, all_weaker p q each bs parts.1) refl

-- ---- numbers

pub code_small : (text : List ℕ) → IfSome (code_of text) (λ code. code < 100000)
code_small text =
    some_where (λ code. code < 100000) (is_code_number text) (number_from 0 text) (λ right.
    let digits = and_parts (nat_le 1 (length text) && nat_le (length text) 5) (list_all is_ascii_digit text) right in
    digits_value_short numerals text 5 digits.1 (leb-true (length text) 5 (and_parts (nat_le 1 (length text)) _ digits.0).1))

code_number : (n : ℕ) → n < 100000 → is_code_number (decimal n) ≡ true
code_number n small =
    let short : length (decimal n) ≤ 5 = length-decimal-le 5 n (omega arith) (omega arith) (omega arith) in
    rw (le-leb 1 (length (decimal n)) (decimal_some n (omega arith)), le-leb (length (decimal n)) 5 short, decimal_digits n (omega arith)) refl

pub code_again : (n : ℕ) → n < 100000 → code_of (decimal n) ≡ Some n
code_again n small = rw (code_number n small, decimal_value n (omega arith)) refl

plain_again : (n : ℕ) → n < 100000 → is_plain (decimal n) ≡ true
plain_again n small = elim (cases_eq n 0) as (λ _. is_plain (decimal n) ≡ true) [
  | inl none ↦ subst (λ m. is_plain (decimal m) ≡ true) (sym none) (ap is_plain (decimal_digit 0 (omega arith)))
  | inr some ↦
      let first : 48 < slice_index (decimal n) 0 = first_decimal n (omega arith) (omega arith) in
      rw (code_number n small, ne_eqb (slice_index (decimal n) 0) 48 (λ e. omega arith)) (or_right (length (decimal n) == 1) true refl)
]

between : (b : Bool) (least most n : ℕ) → (b && nat_le least n && nat_le n most) ≡ true → IsWithin least most n
between b least most n right =
    let upper = and_parts (b && nat_le least n) (nat_le n most) right in
    (leb-true least n (and_parts b (nat_le least n) upper.0).1, leb-true n most upper.1)

pub within : (least most : ℕ) (text : List ℕ) → IfSome (number_within least most text) (IsWithin least most)
within least most text = some_where (IsWithin least most) _ _ (between (is_plain text) least most (number_from 0 text))

pub number_again : (least most n : ℕ) → IsWithin least most n → n < 100000 → number_within least most (decimal n) ≡ Some n
number_again least most n is small =
    rw (plain_again n small, decimal_value n (omega arith), le-leb least n is.0, le-leb n most is.1) refl

-- ---- times

seconds_within : (unit : ℕ) (text : List ℕ) → IfSome (seconds_of unit text) (IsWithin 1 10000000)
seconds_within unit text = some_where (IsWithin 1 10000000) _ _ (between (are_digits text) 1 10000000 (number_from 0 text * unit))

pub time_within : (text : List ℕ) → IfSome (time_of text) (IsWithin 1 10000000)
time_within text = by (unit_of (slice_index text (length text - 1)))
  where
    by : (unit : Option ℕ) → IfSome (time_in text unit) (IsWithin 1 10000000)
    by None = seconds_within 1 text
    by (Some unit) = seconds_within unit (take (length text - 1) text)

digit_at : (ds : List ℕ) (i : ℕ) → list_all is_ascii_digit ds ≡ true → i < length ds → is_ascii_digit (slice_index ds i) ≡ true
digit_at ds i h less = AllPass-from_list_all is_ascii_digit ds h i 0 less

-- no digit is a unit
no_unit : (d : ℕ) → is_ascii_digit d ≡ true → unit_of d ≡ None
no_unit d h =
    let less : d < 58 = grind (arith, nat_tests) in
    rw (ne_eqb d 115 (λ e. omega arith), ne_eqb d 109 (λ e. omega arith), ne_eqb d 104 (λ e. omega arith), ne_eqb d 100 (λ e. omega arith)) refl

pub time_again : (n : ℕ) → IsWithin 1 10000000 n → time_of (decimal n) ≡ Some n
time_again n is =
    let small : n < 4294967296 = omega arith in
    let some = decimal_some n small in
    let last = digit_at (decimal n) (length (decimal n) - 1) (decimal_digits n small) (omega arith) in
    let value : number_from 0 (decimal n) * 1 ≡ n = omega (arith, decimal_value n small) in
    rw (no_unit _ last, value, le-leb 1 (length (decimal n)) some, decimal_digits n small, le-leb 1 n is.0, le-leb n 10000000 is.1) refl

within_range : (least most : ℕ) (time : Option ℕ) → IfSome (if_within least most time) (IsWithin least most)
within_range least most None = tt
within_range least most (Some time) = some_where (IsWithin least most) _ time (between true least most time)

pub window_within : (text : List ℕ) → IfSome (window_of text) (IsWithin 10 300)
window_within text = within_range 10 300 (time_of text)

pub window_again : (n : ℕ) → IsWithin 10 300 n → window_of (decimal n) ≡ Some n
window_again n is = rw (time_again n (omega arith, omega arith), le-leb 10 n is.0, le-leb n 300 is.1) refl

-- ---- addresses

-- four numbers of 8 bits
abbrev pub IsIp : List ℕ → Type 0
IsIp (a ∷ b ∷ c ∷ d ∷ []) = IsWithin 0 255 a × IsWithin 0 255 b × IsWithin 0 255 c × IsWithin 0 255 d
IsIp _ = ⊥

-- digits, and so no dots
digit_undotted : (d : ℕ) → is_ascii_digit d ≡ true → not (is_dot d) ≡ true
digit_undotted d h = grind (arith, nat_tests)

octet_undotted : (n : ℕ) → IsWithin 0 255 n → All (λ d. is_dot d ≡ false) (decimal n)
octet_undotted n is = without is_dot (decimal n) (all_weaker is_ascii_digit (λ d. not (is_dot d)) digit_undotted (decimal n) (decimal_digits n (omega arith)))

octet_again : (n : ℕ) → IsWithin 0 255 n → octet_of (decimal n) ≡ Some n
octet_again n is = number_again 0 255 n is (omega arith)

not_every : (ds rest : List ℕ) → list_all is_ascii_digit ds ≡ true → 0 < length ds → same (ds ++ rest) (codes "::") ≡ false
not_every [] rest h some = absurd (omega arith)
not_every (d ∷ ds) rest h some =
    let digit = (and_parts (is_ascii_digit d) (list_all is_ascii_digit ds) h).0 in
    let first : d < 58 = grind (arith, nat_tests) in
    rw (ne_eqb d 58 (λ e. omega arith)) refl

pub ip_again : (ip : List ℕ) → IsIp ip → ip_of (ip_text ip) ≡ Some ip
unfolding ip_text
ip_again (a ∷ b ∷ c ∷ d ∷ []) h =
    let third = dotted c (decimal d) in
    let second = dotted b third in
    rw (
      not_every (decimal a) (46 ∷ second) (decimal_digits a (omega arith)) (decimal_some a (omega arith)),
      slice_split_at is_dot (decimal a) 46 second (octet_undotted a h.0) refl,
      slice_split_at is_dot (decimal b) 46 third (octet_undotted b h.1) refl,
      slice_split_at is_dot (decimal c) 46 (decimal d) (octet_undotted c h.2) refl,
      slice_split_none is_dot (decimal d) (octet_undotted d h.3),
      octet_again a h.0,
      octet_again b h.1,
      octet_again c h.2,
      octet_again d h.3,
    ) refl
ip_again _ h = absurd h

last_within : (parts : List (List ℕ)) → IfSome (last_in parts) (IsWithin 0 255)
last_within (part ∷ []) = within 0 255 part
last_within _ = tt

four_within : (a b c d : Option ℕ) → (let IsOctet : Option ℕ → Type 0 = λ o. IfSome o (IsWithin 0 255) in IsOctet a → IsOctet b → IsOctet c → IsOctet d → IfSome (four a b c d) IsIp)
four_within (Some a) (Some b) (Some c) (Some d) p q r s = (p, q, r, s)
four_within _ _ _ _ p q r s = tt

octets_within : (parts : List (List ℕ)) → IfSome (octets_in parts) IsIp
octets_within (a ∷ b ∷ c ∷ last) = four_within (octet_of a) (octet_of b) (octet_of c) (last_in last) (within 0 255 a) (within 0 255 b) (within 0 255 c) (last_within last)
octets_within _ = tt

pub ip_within : (text : List ℕ) → IfSome (ip_of text) IsIp
ip_within text =
    let none : IsWithin 0 255 0 = (omega arith, omega arith) in
    cond_both (same text (codes "::")) (Some (0 ∷ 0 ∷ 0 ∷ 0 ∷ [])) (octets_in (slice_split is_dot text)) (λ ip. IfSome ip IsIp) (λ _. (none, none, none, none)) (λ _. octets_within (slice_split is_dot text))

-- ---- as words

-- no line feeds, no gaps, no quotes
abbrev pub IsPlain : List ℕ → Type 0
IsPlain word = (list_all no_feed word ≡ true) × (list_all no_gap word ≡ true) × (list_all no_quote word ≡ true)

abbrev is_ip_byte : ℕ → Bool
is_ip_byte b = is_ascii_digit b || is_dot b

-- digits and dots stand without quotes
ip_bytes_plain : (word : List ℕ) → list_all is_ip_byte word ≡ true → IsPlain word
ip_bytes_plain word h = (
  all_weaker is_ip_byte no_feed (λ b e. grind (arith, nat_tests)) word h,
  all_weaker is_ip_byte no_gap (λ b e. grind (arith, nat_tests)) word h,
  all_weaker is_ip_byte no_quote (λ b e. grind (arith, nat_tests)) word h,
)

plain_is_word : (word : List ℕ) → IsPlain word → is_word word ≡ true
plain_is_word word is = rw (is.0, is.2) (cond_same (is_bare word))

decimal_bytes : (n : ℕ) → n < 4294967296 → list_all is_ip_byte (decimal n) ≡ true
decimal_bytes n small = all_weaker is_ascii_digit is_ip_byte (λ b e. or_left (is_ascii_digit b) (is_dot b) e) (decimal n) (decimal_digits n small)

pub decimal_plain : (n : ℕ) → n < 4294967296 → IsPlain (decimal n)
decimal_plain n small = ip_bytes_plain (decimal n) (decimal_bytes n small)

pub decimal_word : (n : ℕ) → n < 4294967296 → is_word (decimal n) ≡ true
decimal_word n small = plain_is_word (decimal n) (decimal_plain n small)

dotted_bytes : (n : ℕ) (rest : List ℕ) → IsWithin 0 255 n → list_all is_ip_byte rest ≡ true → list_all is_ip_byte (dotted n rest) ≡ true
dotted_bytes n rest is more = rw (list_all-append is_ip_byte (decimal n) (46 ∷ rest), decimal_bytes n (omega arith), more) refl

pub ip_plain : (ip : List ℕ) → IsIp ip → IsPlain (ip_text ip)
unfolding ip_text
ip_plain (a ∷ b ∷ c ∷ d ∷ []) h =
    let third = dotted c (decimal d) in
    let second = dotted b third in
    ip_bytes_plain (dotted a second) (dotted_bytes a second h.0 (dotted_bytes b third h.1 (dotted_bytes c (decimal d) h.2 (decimal_bytes d (omega arith)))))
ip_plain _ h = absurd h

pub ip_some : (ip : List ℕ) → IsIp ip → 0 < length (ip_text ip)
unfolding ip_text
ip_some (a ∷ b ∷ c ∷ d ∷ []) h = omega (arith, length-append (decimal a) (46 ∷ dotted b (dotted c (decimal d))))
ip_some _ h = absurd h

pub ip_word : (ip : List ℕ) → IsIp ip → is_word (ip_text ip) ≡ true
ip_word ip h = plain_is_word (ip_text ip) (ip_plain ip h)
