-- Fields, each after a slash.
use Rattle.std.proofs.Common.{◌≡◌, ℕ, suc, ◌+◌, ◌<◌, Bool, true, false, cond, List, [], ◌∷◌, ◌++◌, length, refl, sym, get_or, ap, ◌∙◌, arith, append-nil}
use Rattle.std.specs.Prelude.{not}
use Rattle.std.specs.List.{list_all, slice_split, onto_first, All}
use Rattle.std.proofs.lemmas.List.{length-append}
use Rattle.std.proofs.lemmas.Bool.{eqb-false, and_parts, not-true}
use Rattle.std.proofs.lemmas.List.Splits.{slice_split_none, slice_split_at}
use Rattle.std.proofs.lemmas.List.Sums.{AllPass-from_list_all}
use Rattle.filter_lang.specs.Parts.{fields_of, is_slash, ends_in, is_empty}
use Rattle.filter_lang.proofs.LastLaws.{ends_in-append, ends_in-other}
use Rattle.filter_lang.proofs.Tools.{is_inside, is_clean}

abbrev pub slashed : List (List ℕ) → List ℕ
slashed [] = []
slashed (f ∷ fields) = (47 ∷ f) ++ slashed fields

-- how many bytes they have with their slashes
abbrev pub spread : List (List ℕ) → ℕ
spread [] = 0
spread (f ∷ fields) = 1 + length f + spread fields

pub length-slashed : (fields : List (List ℕ)) → length (slashed fields) ≡ spread fields
length-slashed [] = refl
length-slashed (f ∷ fields) = let rest = length-slashed fields in omega (arith, length-append f (slashed fields))

abbrev pub is_neat : List ℕ → Bool
is_neat f = list_all is_clean f

-- the last of one or more fields has bytes
abbrev pub ends_some : List (List ℕ) → Bool
ends_some [] = false
ends_some (f ∷ []) = not (is_empty f)
ends_some (f ∷ g ∷ fields) = ends_some (g ∷ fields)

pub clean_unslashed : (f : List ℕ) → is_neat f ≡ true → All (λ b. is_slash b ≡ false) f
clean_unslashed f h = λ k d lt. let pass = AllPass-from_list_all is_clean f h k d lt in not-true (is_slash (get_or f k d)) (and_parts (is_inside (get_or f k d)) (not (is_slash (get_or f k d))) pass).1

pub fields_of-slashed : (front : List ℕ) (fields : List (List ℕ)) → is_neat front ≡ true → list_all is_neat fields ≡ true → fields_of (front ++ slashed fields) ≡ front ∷ fields
fields_of-slashed front [] h all = rw (append-nil front) (slice_split_none is_slash front (clean_unslashed front h))
fields_of-slashed front (f ∷ fields) h all =
    let parts = and_parts (is_neat f) (list_all is_neat fields) all in
    slice_split_at is_slash front 47 (f ++ slashed fields) (clean_unslashed front h) refl ∙ ap (λ (fs : List (List ℕ)). front ∷ fs) (fields_of-slashed f fields parts.0 parts.1)

-- what ends a field ends the text
pub ends_in-field : (front f rest : List ℕ) → 0 < length (f ++ rest) → ends_in 47 (front ++ ((47 ∷ f) ++ rest)) ≡ ends_in 47 (f ++ rest)
ends_in-field front f rest some = ends_in-append 47 front (47 ∷ (f ++ rest)) (omega arith) ∙ ends_in-append 47 (47 ∷ []) (f ++ rest) some

pub slashed-ends : (front : List ℕ) (fields : List (List ℕ)) → list_all is_neat fields ≡ true → ends_some fields ≡ true → ends_in 47 (front ++ slashed fields) ≡ false
slashed-ends front [] all some = cc
slashed-ends front (f ∷ []) all some =
    let parts = and_parts (is_neat f) true all in
    let apart = eqb-false (length f) 0 (not-true (is_empty f) some) in
    let nil = append-nil f in
    let long : 0 < length (f ++ []) = rw nil (omega arith) in
    ends_in-field front f [] long ∙ ap (ends_in 47) nil ∙ ends_in-other 47 is_clean f (λ e. omega arith) refl parts.0
slashed-ends front (f ∷ g ∷ fields) all some =
    let parts = and_parts (is_neat f) (list_all is_neat (g ∷ fields)) all in
    let long : 0 < length (f ++ slashed (g ∷ fields)) = omega (arith, length-append f (slashed (g ∷ fields))) in
    ends_in-field front f (slashed (g ∷ fields)) long ∙ slashed-ends f (g ∷ fields) parts.1 some

-- the length of a text by its parts
abbrev pub total : List (List ℕ) → ℕ
total [] = 0
total (part ∷ parts) = length part + spread parts

module _ (test : ℕ → Bool) where
  pub parts-some : (text : List ℕ) → length (slice_split test text) ≡ 0 → ⊥
  parts-some [] h = omega arith
  parts-some (b ∷ text) h = by (test b) (slice_split test text) h
    where
      by : (c : Bool) (parts : List (List ℕ)) → length (cond c ([] ∷ parts) (onto_first b parts)) ≡ 0 → ⊥
      by true parts e = omega arith
      by false [] e = omega arith
      by false (part ∷ parts) e = omega arith

  pub parts-total : (text : List ℕ) → total (slice_split test text) ≡ length text
  parts-total [] = omega arith
  parts-total (b ∷ text) = by (test b) (slice_split test text) (parts-some text) (parts-total text)
    where
      by : (c : Bool) (parts : List (List ℕ)) → (length parts ≡ 0 → ⊥) → total parts ≡ length text → total (cond c ([] ∷ parts) (onto_first b parts)) ≡ suc (length text)
      by true [] some e = absurd (some refl)
      by true (part ∷ parts) some e = omega arith
      by false [] some e = absurd (some refl)
      by false (part ∷ parts) some e = omega arith

-- the length of a text that was parted by slashes
pub fields_of-length : (text : List ℕ) (front : List ℕ) (fields : List (List ℕ)) → fields_of text ≡ front ∷ fields → length text ≡ length front + spread fields
fields_of-length text front fields h = sym (parts-total is_slash text) ∙ ap total h
