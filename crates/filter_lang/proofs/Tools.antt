-- Steps that may fail, tests that hold together, and texts without blanks, line ends and slashes.
use Rattle.std.proofs.Common.{◌≡◌, ℕ, ◌≤◌, Bool, true, false, cond, ◌&&◌, List, [], ◌∷◌, ◌++◌, Result, Ok, Err, map, length, refl, ◌∙◌, arith}
use Rattle.std.specs.Prelude.{not}
use Rattle.std.specs.List.{list_all}
use Rattle.std.proofs.lemmas.List.Folds.{list_all-append, list_all-map}
use Rattle.std.proofs.lemmas.List.{map-id}
use Rattle.aprs_base.proofs.CallLemmas.{each_weaker}
use Rattle.aprs_base.specs.Bytes.{is_blank, is_inner}
use Rattle.std.proofs.lemmas.Bool.{and_parts, not-true}
use Rattle.std.proofs.lemmas.Bool.Decides.{nat_tests}
use Rattle.std.specs.Char.{is_ascii_digit}
use Rattle.filter_lang.specs.Parts.{is_slash}

-- a test that refuses
pub cond_not_ok : {E A : Type 0} (b : Bool) (e : E) (r : Result A E) (y : A) → cond b (Err e) r ≡ Ok y → (b ≡ false) × (r ≡ Ok y)
cond_not_ok true e r y h = cc
cond_not_ok false e r y h = (refl, h)

-- neither blank nor line end, and no slash too
abbrev pub is_inside : ℕ → Bool
is_inside b = not (is_blank b) && is_inner b

abbrev pub is_clean : ℕ → Bool
is_clean b = is_inside b && not (is_slash b)

pub inside_unblank : (b : ℕ) → is_inside b ≡ true → is_blank b ≡ false
inside_unblank b h = not-true (is_blank b) (and_parts (not (is_blank b)) (is_inner b) h).0

-- what functions make of a list that passes a test
module _ (p : ℕ → Bool) where
  pub map_agree : (f g : ℕ → ℕ) → ((b : ℕ) → p b ≡ true → f b ≡ g b) → (xs : List ℕ) → list_all p xs ≡ true → map f xs ≡ map g xs
  map_agree f g each [] h = refl
  map_agree f g each (x ∷ xs) h = let parts = and_parts (p x) (list_all p xs) h in rw (each x parts.0, map_agree f g each xs parts.1) refl

  pub map_same : (f : ℕ → ℕ) → ((b : ℕ) → p b ≡ true → f b ≡ b) → (xs : List ℕ) → list_all p xs ≡ true → map f xs ≡ xs
  map_same f each xs h = map_agree f (λ b. b) each xs h ∙ map-id xs

  pub map_all : (q : ℕ → Bool) (f : ℕ → ℕ) → ((b : ℕ) → p b ≡ true → q (f b) ≡ true) → (xs : List ℕ) → list_all p xs ≡ true → list_all q (map f xs) ≡ true
  map_all q f each xs h = list_all-map q f xs ∙ each_weaker p (λ b. q (f b)) each xs h

pub clean_append : (xs ys : List ℕ) → list_all is_clean xs ≡ true → list_all is_clean ys ≡ true → list_all is_clean (xs ++ ys) ≡ true
clean_append xs ys p q = rw (list_all-append is_clean xs ys, p, q) refl

pub digit_clean : (b : ℕ) → is_ascii_digit b ≡ true → is_clean b ≡ true
digit_clean b h = grind (arith, nat_tests)

-- a canonical text is no longer than the text that it is for, and it has no blank, no line end and no slash
pub record Neat (text canonical : List ℕ) : Type 0 where
  pub shorter : length canonical ≤ length text
  pub clean : list_all is_clean canonical ≡ true
