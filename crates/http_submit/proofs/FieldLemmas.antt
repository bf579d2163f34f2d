-- The length that headers tell, by the first of them and the others.
use Rattle.std.proofs.Common.{◌≡◌, ℕ, true, false, ◌-◌, ◌≤◌, List, [], ◌∷◌, length, take, drop, get_or, map, filter, codes, None, refl, inl, inr, ap, subst, arith}
use Rattle.std.proofs.Math.Seq.{take-length}
use Rattle.std.proofs.lemmas.Bool.{cases_Bool}
use Rattle.http_submit.specs.Requests.{has_field, is_named, length_in, length_of, length_text}

abbrev length_name : List ℕ
length_name = codes "content-length"

pub other_named : (field : List ℕ × List ℕ) (fields : List (List ℕ × List ℕ)) → is_named length_name field ≡ false → length_of (field ∷ fields) ≡ length_of fields
other_named field fields other = rw other refl

filter_some : (fields : List (List ℕ × List ℕ)) → has_field length_name fields ≡ true
    → (first : List ℕ × List ℕ) × (more : List (List ℕ × List ℕ)) × (filter (is_named length_name) fields ≡ first ∷ more)
filter_some [] has = cc
filter_some (field ∷ fields) has = elim (cases_Bool (is_named length_name field)) [
  | inl named ↦ (field, filter (is_named length_name) fields, rw named refl)
  | inr other ↦ let more = filter_some fields (rw other at has) in (more.0, more.1, rw other more.2)
]

filter_none : (fields : List (List ℕ × List ℕ)) → has_field length_name fields ≡ false → filter (is_named length_name) fields ≡ []
filter_none [] none = refl
filter_none (field ∷ fields) none = elim (cases_Bool (is_named length_name field)) [
  | inl named ↦ absurd (never (rw named at none))
  | inr other ↦ rw other (filter_none fields (rw other at none))
]
  where
    never : true ≡ false → ⊥
    never e = cc

named_again : (field : List ℕ × List ℕ) (fields : List (List ℕ × List ℕ)) → is_named length_name field ≡ true → has_field length_name fields ≡ true → length_of (field ∷ fields) ≡ None
named_again field fields named has =
    let more = filter_some fields has in
    rw named (ap (λ rest. length_in (field ∷ rest)) more.2)

named_once : (field : List ℕ × List ℕ) (fields : List (List ℕ × List ℕ)) → is_named length_name field ≡ true → has_field length_name fields ≡ false → length_of (field ∷ fields) ≡ length_text field.1
named_once field fields named none = rw named (ap (λ rest. length_in (field ∷ rest)) (filter_none fields none))

-- where the first field of a list names the length, and is taken off
module _ {X : Type 0} (f : X → List ℕ × List ℕ) where
  all_of : (x : X) (xs : List X) → take (length (x ∷ xs) - 1) xs ≡ xs
  all_of x xs = let e : length (x ∷ xs) - 1 ≡ length xs = omega arith in rw (e, take-length) refl

  pub again_behind : (xs : List X) (d : X) → 1 ≤ length xs → is_named length_name (f (get_or xs 0 d)) ≡ true
      → has_field length_name (map f (take (length xs - 1) (drop 1 xs))) ≡ true → length_of (map f xs) ≡ None
  again_behind [] d some named has = absurd (omega arith)
  again_behind (x ∷ xs) d some named has = named_again (f x) (map f xs) named (subst (λ rest. has_field length_name (map f rest) ≡ true) (all_of x xs) has)

  pub once_in : (xs : List X) (d : X) → 1 ≤ length xs → is_named length_name (f (get_or xs 0 d)) ≡ true
      → has_field length_name (map f (take (length xs - 1) (drop 1 xs))) ≡ false → length_of (map f xs) ≡ length_text (f (get_or xs 0 d)).1
  once_in [] d some named none = absurd (omega arith)
  once_in (x ∷ xs) d some named none = named_once (f x) (map f xs) named (subst (λ rest. has_field length_name (map f rest) ≡ false) (all_of x xs) none)
