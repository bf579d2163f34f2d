-- The members of a set by its bits.
use Rattle.std.proofs.Common.{◌≡◌, ℕ, zero, suc, ◌+◌, ◌/◌, ◌^◌, ◌<◌, ◌≤◌, Bool, false, ◌==◌, List, [], ◌∷◌, filter, length, refl, sym, ◌∙◌, arith, inl, inr, ap}
use Rattle.std.specs.Prelude.{bit_and, nat_eq, nat_le, nat_lt, ◌&&◌}
use Rattle.std.specs.Int.{bit_at}
use Rattle.std.specs.List.{range_with_len}
use Rattle.std.proofs.lemmas.Bool.{cases_eq, ne_eqb, eqb-false, eqb-true, lt-ltb, le-ltb, le-leb}
use Rattle.std.proofs.lemmas.Nat.Bits.{bit_at-zero, same_from_bits_below, shr_and_one, bit_at-lt}
use Rattle.std.proofs.lemmas.Map.Views.{any-filter_same}
use Rattle.std.proofs.Math.Bool.{and-true, and-false}
use Rattle.std.proofs.lemmas.Bool.Decides.{nat_tests}
use Rattle.filter_lang.specs.Parts.{is_empty}
use Rattle.filter_lang.specs.Sets.{has, is_set, members_of}
use Rattle.filter_lang.proofs.SetLemmas.{filter_range}

-- a filter's members
pub has_filter : (test : ℕ → Bool) (xs : List ℕ) (k : ℕ) → has (filter test xs) k ≡ (test k && has xs k)
has_filter test xs k = any-filter_same (λ c. c == k) test (test k) (λ c e. ap test (eqb-true c k e)) xs

has_range : (from n k : ℕ) → has (range_with_len from n) k ≡ (nat_le from k && nat_lt k (from + n))
has_range from zero k = grind (arith, nat_tests)
has_range from (suc n) k = rw (has_range (from + 1) n k) (grind (arith, nat_tests))

pub has_members : (test : ℕ → Bool) (k : ℕ) → k < 128 → has (filter test (range_with_len 0 128)) k ≡ test k
has_members test k h = has_filter test (range_with_len 0 128) k ∙ rw (has_range 0 128 k, le-leb 0 k (omega arith), lt-ltb k 128 h) (and-true (test k))

pub members_of-has : (bits k : ℕ) → k < 128 → has (members_of bits) k ≡ is_set bits k
unfolding members_of
members_of-has bits k h = has_members (is_set bits) k h

pub members_of-lacks : (bits k : ℕ) → 128 ≤ k → has (members_of bits) k ≡ false
unfolding members_of
members_of-lacks bits k h = has_filter (is_set bits) (range_with_len 0 128) k ∙ rw (has_range 0 128 k, le-leb 0 k (omega arith), le-ltb k 128 h) (and-false (is_set bits k))

-- the code's tests
pub bit_test : (bits k : ℕ) → k < 128 → nat_eq (bit_and (bits / 2 ^ k) 1) 1 ≡ has (members_of bits) k
bit_test bits k h = rw (shr_and_one bits k, members_of-has bits k h) refl

pub filter_none : (from n : ℕ) → filter (λ _. false) (range_with_len from n) ≡ []
filter_none from zero = refl
filter_none from (suc n) = filter_none (from + 1) n

pub members_of-zero : members_of 0 ≡ []
unfolding members_of
members_of-zero = filter_range (is_set 0) (λ _. false) 0 128 (λ k low high. rw (bit_at-zero k) refl) ∙ filter_none 0 128

pub has_none : (xs : List ℕ) (k : ℕ) → length xs ≡ 0 → has xs k ≡ false
has_none [] k h = refl
has_none (x ∷ xs) k h = absurd (omega arith)

pub members_of-empty : (bits : ℕ) → bits < 2 ^ 128 → length (members_of bits) ≡ 0 → bits ≡ 0
members_of-empty bits small h = same_from_bits_below 128 bits 0 small (omega arith) (λ k lt.
    let unset : is_set bits k ≡ false = sym (members_of-has bits k lt) ∙ has_none (members_of bits) k h in
    let other : bit_at bits k ≡ 1 → ⊥ = eqb-false (bit_at bits k) 1 unset in
    let small = bit_at-lt bits k in
    rw (bit_at-zero k) (omega arith))

pub empty_test : (bits : ℕ) → bits < 2 ^ 128 → nat_eq bits 0 ≡ is_empty (members_of bits)
empty_test bits small = elim (cases_eq bits 0) as (λ _. nat_eq bits 0 ≡ is_empty (members_of bits)) [
  | inl none ↦ rw (none, members_of-zero) refl
  | inr some ↦ ne_eqb bits 0 some ∙ sym (ne_eqb (length (members_of bits)) 0 (λ e. some (members_of-empty bits small e)))
]
