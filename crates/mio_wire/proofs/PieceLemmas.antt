-- The first bytes of what is left, and the bytes after them.
use Rattle.std.proofs.Common.{◌≡◌, ℕ, ◌+◌, ◌-◌, inl, inr, suc, List, [], ◌∷◌, ◌++◌, length, take, drop, min, refl, sym, ap, ◌∙◌, arith}
use Rattle.std.proofs.Math.ListN.{drop_of_length-le}
use Rattle.std.proofs.lemmas.Bool.{cases_lt}
use Rattle.std.proofs.lemmas.List.{drop-drop, drop-take, length-take, take-take, take_all}

-- as many as there are, or so many
pub first_piece : (most from left : ℕ) (bytes : List ℕ) → take (min most left) (drop from bytes) ≡ take most (take left (drop from bytes))
first_piece most from left bytes = elim (cases_lt left most) [
  | inl few ↦ let n : min most left ≡ left = omega arith in
      let size = length-take left (drop from bytes) in
      ap (λ k. take k (drop from bytes)) n ∙ sym (take_all most (take left (drop from bytes)) (omega arith))
  | inr many ↦ let n : min most left ≡ most = omega arith in
      ap (λ k. take k (drop from bytes)) n ∙ sym (take-take most left (drop from bytes) many)
]

pub rest_piece : (most from left : ℕ) (bytes : List ℕ) → take (left - min most left) (drop (from + min most left) bytes) ≡ drop most (take left (drop from bytes))
rest_piece most from left bytes = elim (cases_lt left most) [
  | inl few ↦ let n : left - min most left ≡ 0 = omega arith in
      let size = length-take left (drop from bytes) in
      ap (λ k. take k (drop (from + min most left) bytes)) n ∙ sym (drop_of_length-le (take left (drop from bytes)) {i = most} (omega arith))
  | inr many ↦ let n : min most left ≡ most = omega arith in
      let whole : most + (left - most) ≡ left = omega arith in
      ap (λ k. take (left - k) (drop (from + k) bytes)) n
      ∙ ap (take (left - most)) (sym (drop-drop most from bytes))
      ∙ sym (drop-take most (left - most) (drop from bytes))
      ∙ ap (λ k. drop most (take k (drop from bytes))) whole
]

-- so many as the first of two lists has
pub take_front : (n : ℕ) (front rest : List ℕ) → length front ≡ n → take n (front ++ rest) ≡ front
take_front n [] rest size = let none : n ≡ 0 = omega arith in rw none refl
take_front n (b ∷ bs) rest size = let more : n ≡ suc (n - 1) = omega arith in rw more (ap (λ ls. b ∷ ls) (take_front (n - 1) bs rest (omega arith)))
