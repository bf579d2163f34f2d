-- The canonical letters of a mask read as the same mask and are no longer.
use Rattle.std.proofs.Common.{◌≡◌, ℕ, zero, suc, ◌+◌, ◌*◌, ◌/◌, ◌^◌, ◌<◌, ◌≤◌, Bool, true, false, cond, ◌==◌, ◌&&◌, List, [], ◌∷◌, ◌++◌, Some, filter, length, refl, sym, ap, ◌∙◌, arith}
use Rattle.std.specs.Prelude.{not, bit_and, if◌then◌else◌}
use Rattle.std.specs.Int.{bit_at}
use Rattle.std.specs.List.{list_all}
use Rattle.std.proofs.lemmas.Nat.Bits.{and_pow, bit_at-suc, bit_at_lowest, bit_at-zero}
use Rattle.std.proofs.lemmas.Bool.{ne_eqb, eq-eqb, eqb-false, and_parts, not-true}
use Rattle.std.proofs.Math.Bool.{and-true}
use Rattle.std.proofs.Math.Nat.{one-le-pow}
use Rattle.aprs_base.proofs.CallLemmas.{each_weaker}
use Rattle.filter_lang.specs.Sets.{has, classes, is_class, mask_over, mask_of, mask_text, letters_of}
use Rattle.filter_lang.proofs.SetLaws.{all_if, has_all, one_more}
use Rattle.filter_lang.proofs.MemberLemmas.{has_filter, has_none}
use Rattle.aprs_base.proofs.StepLemmas.{cond_some}
use Rattle.filter_lang.proofs.Tools.{is_clean, Neat}

abbrev pub one : Bool → ℕ
one b = cond b 1 0

-- the number of bits, the lowest first
abbrev pub value : List Bool → ℕ
value [] = 0
value (b ∷ bits) = one b + 2 * value bits

abbrev pub bit : List Bool → ℕ → Bool
bit [] k = false
bit (b ∷ bits) zero = b
bit (b ∷ bits) (suc k) = bit bits k

pub one_small : (b : Bool) → one b ≤ 1
one_small true = omega arith
one_small false = omega arith

pub value-bit : (bits : List Bool) (k : ℕ) → bit_at (value bits) k ≡ one (bit bits k)
value-bit [] k = bit_at-zero k
value-bit (b ∷ bits) zero = let small = one_small b in rw (bit_at_lowest (value (b ∷ bits))) (omega arith)
value-bit (b ∷ bits) (suc k) =
    let small = one_small b in
    let half : value (b ∷ bits) / 2 ≡ value bits = omega arith in
    rw (bit_at-suc (value (b ∷ bits)) k, half) (value-bit bits k)

abbrev pub bits_of : List ℕ → List Bool
bits_of letters = has letters 112 ∷ has letters 111 ∷ has letters 105 ∷ has letters 109 ∷ has letters 113 ∷ has letters 115 ∷ has letters 116 ∷ has letters 117 ∷ has letters 110 ∷ has letters 119 ∷ []

pub scaled : (b : Bool) (n : ℕ) → cond b n 0 ≡ n * one b
scaled true n = omega arith
scaled false n = omega arith

pub mask_over-value : (letters : List ℕ) → mask_over classes letters ≡ value (bits_of letters)
mask_over-value letters = omega (arith, scaled (has letters 112) 1, scaled (has letters 111) 2, scaled (has letters 105) 4, scaled (has letters 109) 8, scaled (has letters 113) 16, scaled (has letters 115) 32, scaled (has letters 116) 64, scaled (has letters 117) 128, scaled (has letters 110) 256, scaled (has letters 119) 512)

-- one class
pub written : (m k letter : ℕ) (b : Bool) → bit_at m k ≡ one b → (if bit_and m (2 ^ k) == 0 then [] else letter ∷ []) ≡ cond b (letter ∷ []) []
written m k letter true h =
    let power = one-le-pow k 2 (omega arith) in
    let set : bit_and m (2 ^ k) ≡ 2 ^ k = and_pow m k ∙ rw h (omega arith) in
    rw (ne_eqb (bit_and m (2 ^ k)) 0 (λ e. omega arith)) refl
written m k letter false h =
    let unset : bit_and m (2 ^ k) ≡ 0 = and_pow m k ∙ rw h (omega arith) in
    rw unset refl

abbrev pub table : List ℕ
table = 112 ∷ 111 ∷ 105 ∷ 109 ∷ 113 ∷ 115 ∷ 116 ∷ 117 ∷ 110 ∷ 119 ∷ []

pub if_append : (c : Bool) (x : ℕ) (xs ys : List ℕ) → xs ≡ ys → cond c (x ∷ []) [] ++ xs ≡ cond c (x ∷ ys) ys
if_append true x xs ys e = ap (λ (z : List ℕ). x ∷ z) e
if_append false x xs ys e = e

abbrev pub picked : List ℕ → List ℕ
picked letters = filter (has letters) table

pub one_class : (m k letter : ℕ) (b : Bool) (xs ys : List ℕ) → bit_at m k ≡ one b → xs ≡ ys → (if bit_and m (2 ^ k) == 0 then [] else letter ∷ []) ++ xs ≡ cond b (letter ∷ ys) ys
one_class m k letter b xs ys h e = rw (written m k letter b h) (if_append b letter xs ys e)

pub mask_text-picked : (letters : List ℕ) (m : ℕ) → ((k : ℕ) → bit_at m k ≡ one (bit (bits_of letters) k)) → mask_text classes m ≡ picked letters
mask_text-picked letters m h =
    one_class m 0 112 (has letters 112) _ _ (h 0) (
    one_class m 1 111 (has letters 111) _ _ (h 1) (
    one_class m 2 105 (has letters 105) _ _ (h 2) (
    one_class m 3 109 (has letters 109) _ _ (h 3) (
    one_class m 4 113 (has letters 113) _ _ (h 4) (
    one_class m 5 115 (has letters 115) _ _ (h 5) (
    one_class m 6 116 (has letters 116) _ _ (h 6) (
    one_class m 7 117 (has letters 117) _ _ (h 7) (
    one_class m 8 110 (has letters 110) _ _ (h 8) (
    one_class m 9 119 (has letters 119) [] [] (h 9) refl)))))))))

pub letters_of-mask : (letters : List ℕ) → letters_of (mask_over classes letters) ≡ picked letters
unfolding letters_of
letters_of-mask letters = mask_text-picked letters (mask_over classes letters) (λ k. rw (mask_over-value letters) (value-bit (bits_of letters) k))

-- a letter of the table is picked where it is there
pub has-picked : (letters : List ℕ) (k : ℕ) → has table k ≡ true → has (picked letters) k ≡ has letters k
has-picked letters k h =
    has_filter (has letters) table k ∙ rw (h, and-true (has letters k)) refl

pub mask_over-picked : (letters : List ℕ) → mask_over classes (picked letters) ≡ mask_over classes letters
mask_over-picked letters = rw (has-picked letters 112 refl, has-picked letters 111 refl, has-picked letters 105 refl, has-picked letters 109 refl, has-picked letters 113 refl, has-picked letters 115 refl, has-picked letters 116 refl, has-picked letters 117 refl, has-picked letters 110 refl, has-picked letters 119 refl) refl

pub filter_kept : (test keep : ℕ → Bool) (xs : List ℕ) → list_all test xs ≡ true → list_all test (filter keep xs) ≡ true
filter_kept test keep [] h = refl
filter_kept test keep (x ∷ xs) h =
    let parts = and_parts (test x) (list_all test xs) h in
    all_if test x (filter keep xs) (keep x) (λ _. parts.0) (filter_kept test keep xs parts.1)

pub picked-shorter : (letters : List ℕ) → length (picked letters) ≤ length letters
picked-shorter [] = omega arith
picked-shorter (b ∷ letters) = let more = picked-shorter letters in let one' = one_more b (has letters) table refl in omega arith

pub class_clean : (b : ℕ) → is_class b ≡ true → is_clean b ≡ true
class_clean b h = has_all is_clean table b refl h

pub picked_some : (letters : List ℕ) → list_all is_class letters ≡ true → 0 < length letters → length (picked letters) ≡ 0 → ⊥
picked_some [] all some e = omega arith
picked_some (b ∷ letters) all some e =
    let class : has table b ≡ true = (and_parts (is_class b) (list_all is_class letters) all).0 in
    let here : has (b ∷ letters) b ≡ true = rw (eq-eqb b b refl) refl in
    let there = has-picked (b ∷ letters) b class in
    let none = has_none (picked (b ∷ letters)) b e in
    cc

pub record KeepsMask (field : List ℕ) (m : ℕ) : Type 0 where
  pub again : mask_of (letters_of m) ≡ Some m
  pub neat : Neat field (letters_of m)
  pub some : 0 < length (letters_of m)

pub picked_again : (field : List ℕ) → list_all is_class field ≡ true → 0 < length field → mask_of (picked field) ≡ Some (mask_over classes field)
unfolding mask_of
picked_again field all some = rw (filter_kept is_class (has field) table refl, ne_eqb (length (picked field)) 0 (picked_some field all some), mask_over-picked field) refl

pub mask_again : (field : List ℕ) (m : ℕ) → mask_of field ≡ Some m → KeepsMask field m
unfolding mask_of
mask_again field m h =
    let test = cond_some (list_all is_class field && not (length field == 0)) (Some (mask_over classes field)) m h in
    let e : mask_over classes field ≡ m = cc in
    let parts = and_parts (list_all is_class field) (not (length field == 0)) test.0 in
    let apart = eqb-false (length field) 0 (not-true (length field == 0) parts.1) in
    let some : 0 < length field = omega arith in
    let letters : letters_of m ≡ picked field = ap letters_of (sym e) ∙ letters_of-mask field in
    let picks = picked_some field parts.0 some in
    record {
      again = ap mask_of letters ∙ picked_again field parts.0 some ∙ ap (λ (n : ℕ). Some n) e;
      neat = record { shorter = rw letters (picked-shorter field); clean = rw letters (each_weaker is_class is_clean class_clean (picked field) (filter_kept is_class (has field) table refl)) };
      some = rw letters (omega arith);
    }
