-- Where a binary search finds a number among rising ones.
use Rattle.std.proofs.Common.{◌≡◌, ℕ, ◌<◌, ◌≤◌, ◌==◌, List, length, get_or, Result, Ok, Err, is_ok, sym, arith, le_refl, inl, inr, eq-eqb}
use Rattle.std.specs.List.{list_any}
use Rattle.std.specs.List.Sorted.{IsBinarySearchResult, IsStrictlyIncreasing}
use Rattle.std.specs.Ordering.{nat_cmp}
use Rattle.std.proofs.lemmas.Bool.{cases_lt, false_from_ne_true, eqb-true}
use Rattle.std.proofs.lemmas.List.Folds.{list_any_at, list_any_none}
use Rattle.std.proofs.lemmas.List.Kept.{AllPairs-from_increasing}
use Rattle.std.proofs.lemmas.List.Sorted.{searched}
use Rattle.std.proofs.lemmas.List.{get_or_default}

module _ (number : ℕ) (numbers : List ℕ) (rises : IsStrictlyIncreasing numbers) where
  never_fall : (i j : ℕ) → i ≤ j → j < length numbers → get_or numbers i 0 ≤ get_or numbers j 0
  never_fall i j le within =
      elim (cases_lt i j) [
        | inl lt ↦ let more = AllPairs-from_increasing numbers rises i j 0 lt within in omega arith
        | inr over ↦ let same : i ≡ j = omega arith in rw same (le_refl _)
      ]

  pub found_is_member : (r : Result ℕ ℕ) → IsBinarySearchResult (λ other. nat_cmp other number) numbers r → is_ok r ≡ list_any (λ other. number == other) numbers
  found_is_member (Ok i) is =
      let at = searched numbers number (Ok i) is never_fall in
      sym (list_any_at (λ other. number == other) numbers i 0 at.0 (eq-eqb number (get_or numbers i 0) (sym at.1)))
  found_is_member (Err i) is =
      let around = searched numbers number (Err i) is never_fall in
      sym (list_any_none (λ other. number == other) numbers (λ k d within. false_from_ne_true _ (λ same.
      let equal : number ≡ get_or numbers k d = eqb-true number (get_or numbers k d) same in
      let default : get_or numbers k d ≡ get_or numbers k 0 = get_or_default numbers k d 0 within in
      elim (cases_lt k i) [
        | inl before ↦ let less = around.1 k before in omega arith
        | inr after ↦ let more = around.2 k after within in omega arith
      ])))
