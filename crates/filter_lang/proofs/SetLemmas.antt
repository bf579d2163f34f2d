-- Sets of bytes by their bits, and masks.
use Rattle.std.proofs.Common.{◌≡◌, ℕ, zero, suc, ◌+◌, ◌*◌, ◌%◌, ◌^◌, ◌<◌, ◌≤◌, Bool, true, false, ◌||◌, ◌==◌, List, [], ◌∷◌, ◌++◌, map, filter, take, drop, length, get_or, refl, arith, drop-cons, add-one, inl, inr, eq-eqb}
use Rattle.std.specs.Prelude.{bit_or, if◌then◌else◌, slice_index_or}
use Rattle.std.specs.List.{list_all, range_with_len}
use Rattle.std.proofs.lemmas.Bool.Decides.{nat_tests}
use Rattle.std.proofs.Math.Bool.{or-true, or-false}
use Rattle.std.proofs.lemmas.List.Folds.{list_any-append}
use Rattle.std.proofs.lemmas.Bool.{cases_eq}
use Rattle.std.proofs.lemmas.Nat.Bits.{bit_at_set_same, bit_at_set_other}
use Rattle.std.specs.Int.{w128}
use Rattle.std.proofs.lemmas.List.{take_more, map-append}
use Rattle.std.proofs.lemmas.List.Sums.{AllPass-from_list_all}
use Rattle.std.specs.Char.{is_ascii_alphabetic}
use Rattle.filter_lang.proofs.Tools.{map_same}
use Rattle.aprs_base.proofs.CallLemmas.{each_weaker}
use Rattle.filter_lang.specs.Names.{meant}
use Rattle.filter_lang.specs.Grammar.{is_printing}
use Rattle.filter_lang.specs.Sets.{has, is_set, members_of, set_of, mask_over, classes}

-- tests that agree below a bound keep the same
pub filter_range : (p q : ℕ → Bool) (from n : ℕ) → ((k : ℕ) → from ≤ k → k < from + n → p k ≡ q k) → filter p (range_with_len from n) ≡ filter q (range_with_len from n)
filter_range p q from zero h = refl
filter_range p q from (suc n) h =
    rw (h from (omega arith) (omega arith), filter_range p q (from + 1) n (λ k low high. h k (omega arith) (omega arith))) refl

pub members_of-set : (bits : ℕ) (bytes : List ℕ) → ((k : ℕ) → is_set bits k ≡ has bytes k) → members_of bits ≡ set_of bytes
unfolding members_of set_of
members_of-set bits bytes h = filter_range (is_set bits) (has bytes) 0 128 (λ k low high. h k)

pub has-append : (bytes : List ℕ) (b k : ℕ) → has (bytes ++ b ∷ []) k ≡ (has bytes k || b == k)
has-append bytes b k = rw (list_any-append (λ c. c == k) bytes (b ∷ []), or-false (b == k)) refl

pub is_set_more : (bits b k : ℕ) → b < 128 → is_set (bit_or bits (1 * 2 ^ b % 340282366920938463463374607431768211456)) k ≡ (is_set bits k || b == k)
is_set_more bits b k h = elim (cases_eq k b) as (λ _. is_set (bit_or bits (1 * 2 ^ b % 340282366920938463463374607431768211456)) k ≡ (is_set bits k || b == k)) [
  | inl same ↦ rw (same, bit_at_set_same w128 bits b h, eq-eqb b b refl, or-true (is_set bits b)) refl
  | inr other ↦
      let apart : (b == k) ≡ false = grind (arith, nat_tests) in
      rw (bit_at_set_other w128 bits b h k other, apart, or-false (is_set bits k)) refl
]

pub has_more : (text : List ℕ) (i k : ℕ) → i < length text → has (map meant (take (i + 1) text)) k ≡ (has (map meant (take i text)) k || meant (get_or text i 0) == k)
has_more text i k h = rw (take_more text i 0 h, map-append meant (take i text) (get_or text i 0 ∷ [])) (has-append (map meant (take i text)) (meant (get_or text i 0)) k)

pub printing_meant : (text : List ℕ) (i : ℕ) → list_all is_printing text ≡ true → i < length text → meant (get_or text i 0) < 128
printing_meant text i h lt = let printing = AllPass-from_list_all is_printing text h i 0 lt in grind (arith, nat_tests)

pub letters_printing : (text : List ℕ) → list_all is_ascii_alphabetic text ≡ true → list_all is_printing text ≡ true
letters_printing text h = each_weaker is_ascii_alphabetic is_printing (λ b e. grind (arith, nat_tests)) text h

pub letters_meant : (text : List ℕ) → list_all is_ascii_alphabetic text ≡ true → map meant text ≡ text
letters_meant text h = map_same is_ascii_alphabetic meant (λ b e. grind (arith, nat_tests)) text h

pub mask_over_step : (i : ℕ) (letters : List ℕ) → i < 10 → mask_over (drop i classes) letters ≡ (if has letters (slice_index_or classes i (0, 0)).0 then (slice_index_or classes i (0, 0)).1 else 0) + mask_over (drop (i + 1) classes) letters
mask_over_step i letters h = rw (drop-cons classes i (0, 0) h, add-one i) refl

abbrev pub total_of : List (ℕ × ℕ) → ℕ
total_of [] = 0
total_of (class ∷ more) = class.1 + total_of more

pub mask_over-bound : (table : List (ℕ × ℕ)) (letters : List ℕ) → mask_over table letters ≤ total_of table
mask_over-bound [] letters = omega arith
mask_over-bound (class ∷ more) letters = let rest = mask_over-bound more letters in grind arith

-- one class of the table is done
pub moved : (mask bit rest left all : ℕ) → mask + left ≡ all → left ≡ bit + rest → mask + bit + rest ≡ all
moved mask bit rest left all whole step = omega arith
