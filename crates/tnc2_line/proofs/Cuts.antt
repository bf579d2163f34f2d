-- A text cut at the first byte that passes a test.
use Rattle.std.proofs.Common.{◌≡◌, ℕ, ◌+◌, ◌-◌, ◌<◌, ◌≤◌, Bool, true, false, cond, not, ◌||◌, List, [], ◌∷◌, ◌++◌, take, drop, get_or, length, Option, Some, None, refl, sym, ap, ◌∙◌, ltb, arith}
use Rattle.std.proofs.lemmas.Bool.{lt-ltb, le-ltb, ltb-true, ltb-false, and_parts}
use Rattle.std.proofs.Math.Bool.{or-true}
use Rattle.std.proofs.Math.Seq.{drop-append-add}
use Rattle.std.proofs.lemmas.Bool.Decides.{nat_tests}
use Rattle.std.proofs.lemmas.List.Splits.{slice_split_first, slice_split_none}
use Rattle.std.proofs.lemmas.List.Sums.{fails_before_first, passes_at_first, split_at_first}
use Rattle.std.proofs.lemmas.Grind.{common_steps}
use Rattle.tnc2_line.specs.Packet.{cut_at}
use Rattle.std.specs.List.{list_all, list_any, position_or_len, before_first, after_first, slice_split}

module _ {A : Type 0} (test : A → Bool) where
  -- an element passes exactly where the first that does stands in the list
  pub any_is : (xs : List A) → list_any test xs ≡ ltb (position_or_len test xs) (length xs)
  any_is [] = refl
  any_is (x ∷ xs) =
      elim (test x) as (λ b. (b || list_any test xs) ≡ ltb (cond (not b) (1 + position_or_len test xs) 0) (length (x ∷ xs))) [
        | true ↦ grind (arith, nat_tests)
        | false ↦ any_is xs ∙ grind (arith, nat_tests)
      ]

  pub any_at : (xs : List A) → position_or_len test xs < length xs → list_any test xs ≡ true
  any_at xs h = any_is xs ∙ lt-ltb _ _ h

  pub any_past : (xs : List A) → length xs ≤ position_or_len test xs → list_any test xs ≡ false
  any_past xs h = any_is xs ∙ le-ltb _ _ h

  pub any_below : (xs : List A) → list_any test xs ≡ true → position_or_len test xs < length xs
  any_below xs h = ltb-true _ _ (sym (any_is xs) ∙ h)

  pub none_past : (xs : List A) → list_any test xs ≡ false → length xs ≤ position_or_len test xs
  none_past xs h = ltb-false _ _ (sym (any_is xs) ∙ h)

module _ (test : ℕ → Bool) where
  pub cut_found : (text : List ℕ) (n : ℕ) → n ≡ position_or_len test text → n < length text → Some (take n text, take (length text - (n + 1)) (drop (n + 1) text)) ≡ cut_at test text
  cut_found text n e lt =
      let h : position_or_len test text < length text = omega arith in
      let whole : take (length text - (n + 1)) (drop (n + 1) text) ≡ drop (n + 1) text = grind (arith, common_steps) in
      rw (any_at test text h, whole, e) refl

  pub cut_missing : (text : List ℕ) (n : ℕ) → n ≡ position_or_len test text → length text ≤ n → None ≡ cut_at test text
  cut_missing text n e le =
      let h : length text ≤ position_or_len test text = omega arith in
      rw (any_past test text h) refl

  pub split_none : (xs : List ℕ) → list_any test xs ≡ false → slice_split test xs ≡ xs ∷ []
  split_none xs h =
      let past = none_past test xs h in
      slice_split_none test xs (λ k d high. fails_before_first test xs k d (omega arith))

  abbrev pub parted : List ℕ → Option (List ℕ × List ℕ) → List (List ℕ)
  parted text None = text ∷ []
  parted text (Some parts) = parts.0 ∷ slice_split test parts.1

  pub split_cut : (text : List ℕ) → parted text (cut_at test text) ≡ slice_split test text
  split_cut text =
      elim (list_any test text) as (λ v. list_any test text ≡ v → parted text (cond v (Some (before_first test text, after_first test text)) None) ≡ slice_split test text) [
        | true ↦ λ any. sym (slice_split_first test text 0 (any_below test text any))
        | false ↦ λ any. sym (split_none text any)
      ] refl

  pub position_at : (xs : List ℕ) (c : ℕ) (ys : List ℕ) → list_all (λ b. not (test b)) xs ≡ true → test c ≡ true → position_or_len test (xs ++ c ∷ ys) ≡ length xs
  position_at [] c ys h k = rw k refl
  position_at (x ∷ xs) c ys h k =
      let parts : (not (test x) ≡ true) × (list_all (λ b. not (test b)) xs ≡ true) = and_parts _ _ h in
      rw parts.0 (let e : position_or_len test (xs ++ c ∷ ys) ≡ length xs = position_at xs c ys parts.1 k in omega arith)

  pub position_none : (xs : List ℕ) → list_all (λ b. not (test b)) xs ≡ true → position_or_len test xs ≡ length xs
  position_none [] h = refl
  position_none (x ∷ xs) h =
      let parts : (not (test x) ≡ true) × (list_all (λ b. not (test b)) xs ≡ true) = and_parts _ _ h in
      rw parts.0 (let e : position_or_len test xs ≡ length xs = position_none xs parts.1 in omega arith)

  pub any_none : (xs : List ℕ) → list_all (λ b. not (test b)) xs ≡ true → list_any test xs ≡ false
  any_none xs h = any_past test xs (let e : position_or_len test xs ≡ length xs = position_none xs h in omega arith)

  any_there : (xs : List ℕ) (c : ℕ) (ys : List ℕ) → test c ≡ true → list_any test (xs ++ c ∷ ys) ≡ true
  any_there [] c ys k = rw k refl
  any_there (x ∷ xs) c ys k = rw (any_there xs c ys k) (or-true (test x))

  -- a text with such a byte behind bytes that are none is cut there
  pub cut_there : (xs : List ℕ) (c : ℕ) (ys : List ℕ) → list_all (λ b. not (test b)) xs ≡ true → test c ≡ true → cut_at test (xs ++ c ∷ ys) ≡ Some (xs, ys)
  cut_there xs c ys h k =
      let e : position_or_len test (xs ++ c ∷ ys) ≡ length xs = position_at xs c ys h k in
      let front : take (length xs) (xs ++ c ∷ ys) ≡ xs = grind (arith, common_steps) in
      let back : drop (length xs + 1) (xs ++ c ∷ ys) ≡ ys = drop-append-add xs (c ∷ ys) 1 in
      rw (any_there xs c ys k, e, front, back) refl

  -- and what is cut is its two sides and such a byte
  pub cut_whole : (xs : List ℕ) → list_any test xs ≡ true → (c : ℕ) × (test c ≡ true) × (xs ≡ before_first test xs ++ c ∷ after_first test xs)
  cut_whole xs h = let lt = any_below test xs h in (get_or xs (position_or_len test xs) 0, passes_at_first test xs 0 lt, split_at_first test xs 0 lt)

  abbrev is_cut : List ℕ → Bool → Option (List ℕ × List ℕ)
  is_cut text v = cond v (Some (before_first test text, after_first test text)) None

  abbrev sides : Option (List ℕ × List ℕ) → List ℕ × List ℕ
  sides None = ([], [])
  sides (Some parts) = parts

  pub cut_sides : (text a b : List ℕ) → cut_at test text ≡ Some (a, b) → (c : ℕ) × (test c ≡ true) × (text ≡ a ++ c ∷ b)
  cut_sides text a b h =
      elim (list_any test text) as (λ v. list_any test text ≡ v → is_cut text v ≡ Some (a, b) → (c : ℕ) × (test c ≡ true) × (text ≡ a ++ c ∷ b)) [
        | true ↦ λ any e.
            let whole = cut_whole text any in
            let front : before_first test text ≡ a = ap (λ o. (sides o).0) e in
            let back : after_first test text ≡ b = ap (λ o. (sides o).1) e in
            (whole.0, whole.1, whole.2 ∙ ap (λ t. t ++ whole.0 ∷ after_first test text) front ∙ ap (λ t. a ++ whole.0 ∷ t) back)
        | false ↦ λ _ e. cc
      ] refl h
