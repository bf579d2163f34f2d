-- Canonical sets and masks read as the same and are no longer.
use Rattle.std.proofs.Common.{◌≡◌, ℕ, suc, ◌+◌, ◌<◌, ◌≤◌, inl, inr, Bool, true, false, cond, ◌==◌, ◌||◌, ◌&&◌, List, [], ◌∷◌, Some, map, filter, length, refl, sym, ◌∙◌, arith, subst}
use Rattle.std.specs.Prelude.{not}
use Rattle.std.specs.List.{list_all, range_with_len}
use Rattle.std.proofs.lemmas.List.{length-map}
use Rattle.std.proofs.lemmas.Bool.{cases_eq, ne_eqb, eq-eqb, and_parts, not-true, or_parts, eqb-false}
use Rattle.std.proofs.lemmas.Bool.Decides.{nat_tests}
use Rattle.std.proofs.lemmas.Simd.{map-map}
use Rattle.std.specs.Char.{is_ascii_alphabetic}
use Rattle.aprs_base.proofs.CallLemmas.{each_weaker}
use Rattle.filter_lang.specs.Parts.{is_empty}
use Rattle.filter_lang.specs.Names.{meant, spelled}
use Rattle.filter_lang.specs.Sets.{has, set_of}
use Rattle.filter_lang.specs.Grammar.{is_printing, symbols_of}
use Rattle.filter_lang.proofs.SetLemmas.{filter_range}
use Rattle.filter_lang.proofs.MemberLemmas.{has_members, has_none}
use Rattle.aprs_base.proofs.StepLemmas.{cond_some}
use Rattle.filter_lang.proofs.Tools.{is_clean, Neat, map_all, map_same}

pub longer : (c : Bool) (x : ℕ) (xs : List ℕ) → length xs ≤ length (cond c (x ∷ xs) xs)
longer true x xs = omega arith
longer false x xs = omega arith

pub longer_both : (c : Bool) (x : ℕ) (xs ys : List ℕ) → length xs ≤ 1 + length ys → length (cond c (x ∷ xs) xs) ≤ 1 + length (cond c (x ∷ ys) ys)
longer_both true x xs ys h = omega arith
longer_both false x xs ys h = h

-- no byte stands twice
abbrev pub is_distinct : List ℕ → Bool
is_distinct [] = true
is_distinct (x ∷ xs) = not (has xs x) && is_distinct xs

pub filter_apart : (b : ℕ) (test : ℕ → Bool) (xs : List ℕ) → has xs b ≡ false → filter (λ k. b == k || test k) xs ≡ filter test xs
filter_apart b test [] h = refl
filter_apart b test (x ∷ xs) h =
    let parts = or_parts (x == b) (has xs b) h in
    rw (ne_eqb b x (λ e. eqb-false x b parts.0 (sym e)), filter_apart b test xs parts.1) refl

-- one byte more adds at most one member
pub one_more : (b : ℕ) (test : ℕ → Bool) (xs : List ℕ) → is_distinct xs ≡ true → length (filter (λ k. b == k || test k) xs) ≤ 1 + length (filter test xs)
one_more b test [] h = omega arith
one_more b test (x ∷ xs) h =
    let parts = and_parts (not (has xs x)) (is_distinct xs) h in
    elim (cases_eq b x) as (λ _. length (filter (λ k. b == k || test k) (x ∷ xs)) ≤ 1 + length (filter test (x ∷ xs))) [
      | inl same ↦
          let least = longer (test x) x (filter test xs) in
          rw (eq-eqb b x same, filter_apart b test xs (rw same (not-true (has xs x) parts.0))) (omega arith)
      | inr other ↦ rw (ne_eqb b x other) (longer_both (test x) x _ _ (one_more b test xs parts.1))
    ]

pub set_of-shorter : (bytes : List ℕ) → length (set_of bytes) ≤ length bytes
unfolding set_of
set_of-shorter [] = omega arith
set_of-shorter (b ∷ bytes) = let more = set_of-shorter bytes in let one = one_more b (has bytes) (range_with_len 0 128) refl in omega arith

pub has-set_of : (bytes : List ℕ) (k : ℕ) → k < 128 → has (set_of bytes) k ≡ has bytes k
unfolding set_of
has-set_of bytes k h = has_members (has bytes) k h

pub set_of-again : (bytes : List ℕ) → set_of (set_of bytes) ≡ set_of bytes
unfolding set_of
set_of-again bytes = filter_range (has (set_of bytes)) (has bytes) 0 128 (λ k low high. has-set_of bytes k (omega arith))

-- what each byte has, each member has
pub has_all : (test : ℕ → Bool) (bytes : List ℕ) (k : ℕ) → list_all test bytes ≡ true → has bytes k ≡ true → test k ≡ true
has_all test [] k all h = cc
has_all test (b ∷ bytes) k all h = elim (cases_eq b k) as (λ _. test k ≡ true) [
  | inl same ↦ rw (← same) (and_parts (test b) (list_all test bytes) all).0
  | inr other ↦ has_all test bytes k (and_parts (test b) (list_all test bytes) all).1 (rw (ne_eqb b k other) at h)
]

pub all_if : (test : ℕ → Bool) (x : ℕ) (xs : List ℕ) (c : Bool) → (c ≡ true → test x ≡ true) → list_all test xs ≡ true → list_all test (cond c (x ∷ xs) xs) ≡ true
all_if test x xs true h rest = rw (h refl, rest) refl
all_if test x xs false h rest = rest

pub filter_all : (test keep : ℕ → Bool) (xs : List ℕ) → ((k : ℕ) → keep k ≡ true → test k ≡ true) → list_all test (filter keep xs) ≡ true
filter_all test keep [] h = refl
filter_all test keep (x ∷ xs) h = all_if test x _ (keep x) (h x) (filter_all test keep xs h)

pub set_of-all : (test : ℕ → Bool) (bytes : List ℕ) → list_all test bytes ≡ true → list_all test (set_of bytes) ≡ true
unfolding set_of
set_of-all test bytes h = filter_all test (has bytes) (range_with_len 0 128) (λ k e. has_all test bytes k h e)

-- a set of a text with bytes has a member
pub set_of-some : (b : ℕ) (bytes : List ℕ) → b < 128 → is_empty (set_of (b ∷ bytes)) ≡ false
set_of-some b bytes h = ne_eqb (length (set_of (b ∷ bytes))) 0 (λ e.
    let none = has_none (set_of (b ∷ bytes)) b e in
    let one : has (b ∷ bytes) b ≡ true = rw (eq-eqb b b refl) refl in
    let set = has-set_of (b ∷ bytes) b h in
    cc)

-- symbols: members that no other byte stands for
abbrev pub is_meant : ℕ → Bool
is_meant b = is_printing b && (not (b == 124) && not (b == 126))

pub meant_is : (b : ℕ) → is_printing b ≡ true → is_meant (meant b) ≡ true
meant_is b h = grind (arith, nat_tests)

pub meant_spelled : (b : ℕ) → is_meant b ≡ true → meant (spelled b) ≡ b
meant_spelled b h = grind (arith, nat_tests)

pub spelled_printing : (b : ℕ) → is_meant b ≡ true → is_printing (spelled b) ≡ true
spelled_printing b h = grind (arith, nat_tests)

pub spelled_clean : (b : ℕ) → is_meant b ≡ true → is_clean (spelled b) ≡ true
spelled_clean b h = grind (arith, nat_tests)

pub spelled_back : (xs : List ℕ) → list_all is_meant xs ≡ true → map meant (map spelled xs) ≡ xs
spelled_back xs h = map-map meant spelled xs ∙ map_same is_meant (λ b. meant (spelled b)) meant_spelled xs h

pub set_empty : (field : List ℕ) → list_all is_printing field ≡ true → is_empty (set_of (map meant field)) ≡ is_empty field
unfolding set_of
set_empty [] h = refl
set_empty (b ∷ field) h =
    let small : meant b < 128 = (let first = (and_parts (is_printing b) (list_all is_printing field) h).0 in grind (arith, nat_tests)) in
    set_of-some (meant b) (map meant field) small ∙ sym (ne_eqb (suc (length field)) 0 (λ e. omega arith))

pub record KeepsSymbols (field set : List ℕ) : Type 0 where
  pub again : symbols_of (map spelled set) ≡ Some set
  pub neat : Neat field (map spelled set)
  pub same : is_empty (map spelled set) ≡ is_empty field
  pub empty : is_empty set ≡ is_empty field

pub symbols_again : (field set : List ℕ) → symbols_of field ≡ Some set → KeepsSymbols field set
unfolding symbols_of
symbols_again field set h =
    let test = cond_some (list_all is_printing field) (Some (set_of (map meant field))) set h in
    let e : set_of (map meant field) ≡ set = cc in
    let all = set_of-all is_meant (map meant field) (map_all is_printing is_meant meant meant_is field test.0) in
    subst (λ (s : List ℕ). KeepsSymbols field s) e (record {
      again = rw (map_all is_meant is_printing spelled spelled_printing (set_of (map meant field)) all, spelled_back (set_of (map meant field)) all, set_of-again (map meant field)) refl;
      neat = record { shorter = (let less = set_of-shorter (map meant field) in rw (length-map (set_of (map meant field)) spelled) (rw (length-map field meant) at less)); clean = map_all is_meant is_clean spelled spelled_clean (set_of (map meant field)) all };
      same = rw (length-map (set_of (map meant field)) spelled) (set_empty field test.0);
      empty = set_empty field test.0;
    })

-- letters
pub letter_spelled : (b : ℕ) → is_ascii_alphabetic b ≡ true → spelled b ≡ b
letter_spelled b h = grind (arith, nat_tests)

pub letter_clean : (b : ℕ) → is_ascii_alphabetic b ≡ true → is_clean b ≡ true
letter_clean b h = grind (arith, nat_tests)

pub letter_small : (b : ℕ) → is_ascii_alphabetic b ≡ true → b < 128
letter_small b h = grind (arith, nat_tests)

pub record KeepsLetters (field canonical : List ℕ) : Type 0 where
  pub letters : list_all is_ascii_alphabetic canonical ≡ true
  pub again : set_of canonical ≡ set_of field
  pub neat : Neat field canonical
  pub same : is_empty canonical ≡ is_empty field

pub letters_empty : (field : List ℕ) → list_all is_ascii_alphabetic field ≡ true → is_empty (set_of field) ≡ is_empty field
unfolding set_of
letters_empty [] h = refl
letters_empty (b ∷ field) h = set_of-some b field (letter_small b (and_parts (is_ascii_alphabetic b) (list_all is_ascii_alphabetic field) h).0) ∙ sym (ne_eqb (suc (length field)) 0 (λ e. omega arith))

pub letters_again : (field : List ℕ) → list_all is_ascii_alphabetic field ≡ true → KeepsLetters field (map spelled (set_of field))
letters_again field h =
    let all = set_of-all is_ascii_alphabetic field h in
    subst (λ (x : List ℕ). KeepsLetters field x) (sym (map_same is_ascii_alphabetic spelled letter_spelled (set_of field) all)) (record {
      letters = all;
      again = set_of-again field;
      neat = record { shorter = set_of-shorter field; clean = each_weaker is_ascii_alphabetic is_clean letter_clean (set_of field) all };
      same = letters_empty field h;
    })
