-- Where a binary search finds the link of a number, among links whose numbers rise.
use Rattle.std.proofs.Common.{◌≡◌, ℕ, zero, suc, ◌+◌, ◌-◌, ◌<◌, ◌&&◌, ◌||◌, List, [], ◌∷◌, length, get_or, slice_get, subst, refl, sym, ap, ◌∙◌, arith, Some, None, Result, Ok, Err, cond, nat_lt, not, true, false, le_refl, inl, inr, ⊎_elim}
use Rattle.std.specs.List.{list_any, position, position_or_len}
use Rattle.std.specs.List.Sorted.{IsBinarySearchResult, IsNonDecreasingBy, IsSearchInRange}
use Rattle.std.specs.Ordering.{nat_cmp, ordering_index}
use Rattle.std.specs.Result.{result_ok}
use Rattle.std.proofs.lemmas.Bool.{and_parts, cases_Bool, cases_lt, eqb-true, true≢false}
use Rattle.std.proofs.lemmas.Bool.Decides.{nat_tests}
use Rattle.std.proofs.lemmas.Cmp.{ranked}
use Rattle.std.proofs.lemmas.Option.{get_or_from_slice_get}
use Rattle.std.proofs.lemmas.List.Sums.{fails_before_first, passes_at_first, position_or_len_is}
use Rattle.aprs_history.specs.Stands.{LinkSeen}
use Rattle.served_links.specs.Links.{Rises, has_that, is_at, is_here, numbers}
use Rattle.served_links.proofs.LinkLemmas.{above, is_that, not_that, position_none, position_some}

-- a later link has a greater number
later_above : (low high : ℕ) (links : List LinkSeen) (i j : ℕ) (d : LinkSeen) → Rises low (numbers links) high → i < j → j < length links
    → (get_or links i d).link < (get_or links j d).link
later_above low high [] i j d rises lt within = absurd (omega arith)
later_above low high (x ∷ links) zero zero d rises lt within = absurd (omega arith)
later_above low high (x ∷ links) (suc i) zero d rises lt within = absurd (omega arith)
later_above low high (x ∷ links) zero (suc j) d rises lt within = above x.link high links j d rises.1 (omega arith)
later_above low high (x ∷ links) (suc i) (suc j) d rises lt within = later_above x.link high links i j d rises.1 (omega arith) (omega arith)

module _ (number high : ℕ) (links : List LinkSeen) (rises : Rises 0 (numbers links) high) where
  -- the comparisons with the number rise, as the search asks
  comparisons_rise : IsNonDecreasingBy (λ (link : LinkSeen). ordering_index (nat_cmp link.link number)) links
  comparisons_rise i j d le within =
      elim (cases_lt i j) [
        | inl lt ↦ let more = later_above 0 high links i j d rises lt within in grind (arith, nat_tests)
        | inr over ↦ let same : i ≡ j = omega arith in rw same (le_refl _)
      ]

  -- the place of a link with the number is the first of such a one
  pub place_found : (place : ℕ) (d : LinkSeen) → place < length links → (get_or links place d).link ≡ number → Some place ≡ position (has_that number) links
  place_found place d within is =
      let first : position_or_len (has_that number) links ≡ place = position_or_len_is (has_that number) links place d (omega arith)
      (λ k lt. not_that number (get_or links k d) (λ same. let more = later_above 0 high links k place d rises lt within in omega arith))
      (λ lt. is_that number (get_or links place d) is) in
      let inside : nat_lt place (length links) ≡ true = grind (arith, nat_tests) in
      rw (first, inside) refl

  place_nowhere : (d : LinkSeen) → ((k : ℕ) → k < length links → (get_or links k d).link ≡ number → ⊥) → None ≡ position (has_that number) links
  place_nowhere d none =
      let last : position_or_len (has_that number) links ≡ length links = position_or_len_is (has_that number) links (length links) d (le_refl (length links))
      (λ k lt. not_that number (get_or links k d) (none k lt)) (λ lt. absurd (omega arith)) in
      let past : nat_lt (length links) (length links) ≡ false = grind (arith, nat_tests) in
      rw (last, past) refl

  searched_with : (d : LinkSeen) (r : Result ℕ ℕ) → IsSearchInRange r (length links) → IsBinarySearchResult (λ (link : LinkSeen). nat_cmp link.link number) links r
      → result_ok r ≡ position (has_that number) links
  searched_with d (Ok place) within equal = place_found place d within (ranked _ number _ (sym (equal d)))
  searched_with d (Err place) within parted =
      place_nowhere d (λ k lt same. elim (cases_lt k place) [
        | inl before ↦ let less = ranked _ number _ (sym ((parted comparisons_rise).0 k d (omega arith) before)) in omega arith
        | inr after ↦ let more = ranked _ number _ (sym ((parted comparisons_rise).1 k d after lt)) in omega arith
      ])

pub searched : (number high : ℕ) (links : List LinkSeen) → Rises 0 (numbers links) high → (r : Result ℕ ℕ) → IsSearchInRange r (length links)
    → IsBinarySearchResult (λ (link : LinkSeen). nat_cmp link.link number) links r → result_ok r ≡ position (has_that number) links
searched number high [] rises (Ok place) within equal = absurd (omega (arith, within))
searched number high [] rises (Err place) within parted = refl
searched number high (x ∷ links) rises r within is = searched_with number high (x ∷ links) rises x r within is

-- where the link of a number stands, if it is here
module _ (number high : ℕ) (links : List LinkSeen) (rises : Rises 0 (numbers links) high) (place : ℕ) (d : LinkSeen) (found : Some place ≡ position (has_that number) links) (at : d ≡ get_or links place d) where
  first_is : (place < length links) × (position_or_len (has_that number) links ≡ place)
  first_is = position_some (has_that number) links place found

  that_there : has_that number (get_or links place d) ≡ true
  that_there =
      let within : position_or_len (has_that number) links < length links = omega (arith, first_is.0, first_is.1) in
      ap (λ n. has_that number (get_or links n d)) (sym first_is.1) ∙ passes_at_first (has_that number) links d within

  fails_before : (k : ℕ) → k < place → is_at number (get_or links k d) ≡ false
  fails_before k lt = ap (λ b. b && is_here (get_or links k d)) (fails_before_first (has_that number) links k d (omega (arith, lt, first_is.1)))

  pub place_stays : is_here d ≡ true → Some place ≡ position (is_at number) links
  place_stays stays =
      let there : is_at number (get_or links place d) ≡ true = ap (λ b. b && is_here (get_or links place d)) that_there ∙ ap is_here (sym at) ∙ stays in
      let first : position_or_len (is_at number) links ≡ place = position_or_len_is (is_at number) links place d (omega (arith, first_is.0)) fails_before (λ lt. there) in
      let small = first_is.0 in
      let inside : nat_lt place (length links) ≡ true = grind (arith, nat_tests) in
      rw (first, inside) refl

  fails_at : is_here d ≡ false → (k : ℕ) → k < length links → is_at number (get_or links k d) ≡ false
  fails_at left k lt =
      elim (cases_lt k place) [
        | inl before ↦ fails_before k before
        | inr from ↦ elim (cases_lt place k) [
          | inl after ↦
              let more = later_above 0 high links place k d rises after lt in
              let is = eqb-true (get_or links place d).link number that_there in
              ap (λ b. b && is_here (get_or links k d)) (not_that number (get_or links k d) (λ same. omega arith))
          | inr le ↦
              let same : k ≡ place = omega arith in
              ap (λ n. is_at number (get_or links n d)) same ∙ ap (λ b. b && is_here (get_or links place d)) that_there ∙ ap is_here (sym at) ∙ left
        ]
      ]

  pub place_left : is_here d ≡ false → None ≡ position (is_at number) links
  place_left left =
      let last : position_or_len (is_at number) links ≡ length links = position_or_len_is (is_at number) links (length links) d (le_refl (length links)) (fails_at left) (λ lt. absurd (omega arith)) in
      let past : nat_lt (length links) (length links) ≡ false = grind (arith, nat_tests) in
      rw (last, past) refl

-- where none has the number, none that is here has
pub none_here : (number : ℕ) (links : List LinkSeen) → None ≡ position (has_that number) links → None ≡ position (is_at number) links
none_here number links missing = absent links (position_none (has_that number) links missing)
  where
    nobody : (links : List LinkSeen) → list_any (has_that number) links ≡ false → position_or_len (is_at number) links ≡ length links
    nobody [] is = refl
    nobody (x ∷ links) is = ⊎_elim
        (λ (there : has_that number x ≡ true). absurd (true≢false (sym (ap (λ b. b || list_any (has_that number) links) there) ∙ is)))
        (λ (other : has_that number x ≡ false).
        let rest = nobody links (sym (ap (λ b. b || list_any (has_that number) links) other) ∙ is) in
        let more : 1 + length links ≡ length (x ∷ links) = omega arith in
        ap (λ b. cond (not b) (1 + position_or_len (is_at number) links) 0) (ap (λ b. b && is_here x) other) ∙ ap (λ n. 1 + n) rest ∙ more)
        (cases_Bool (has_that number x))

    absent : (links : List LinkSeen) → list_any (has_that number) links ≡ false → None ≡ position (is_at number) links
    absent links is =
        let last = nobody links is in
        let past : nat_lt (length links) (length links) ≡ false = grind (arith, nat_tests) in
        rw (last, past) refl

-- the numbers rise to the last
pub rises_last : (low high : ℕ) (links : List LinkSeen) (i : ℕ) (d : LinkSeen) → Rises low (numbers links) high → length links ≡ suc i → Rises low (numbers links) (get_or links i d).link
rises_last low high [] i d rises is = absurd (omega (arith, is))
rises_last low high (x ∷ []) zero d rises is = (rises.0, le_refl x.link)
rises_last low high (x ∷ []) (suc i) d rises is = absurd (omega (arith, is))
rises_last low high (x ∷ y ∷ links) zero d rises is = absurd (omega (arith, is))
rises_last low high (x ∷ y ∷ links) (suc i) d rises is = (rises.0, rises_last x.link high (y ∷ links) i d rises.1 (omega (arith, is)))

pub last_below : (high : ℕ) (links : List LinkSeen) (link : LinkSeen) → Rises 0 (numbers links) high → Some link ≡ slice_get links (length links - 1) → Rises 0 (numbers links) link.link
last_below high [] link rises there = absurd (some_none link there)
  where
    some_none : (link : LinkSeen) → Some link ≡ None → ⊥
    some_none link is = cc
last_below high (x ∷ links) link rises there =
    let last : length (x ∷ links) - 1 ≡ length links = omega arith in
    let at : get_or (x ∷ links) (length links) link ≡ link = get_or_from_slice_get (x ∷ links) (length links) link link (sym (there ∙ ap (slice_get (x ∷ links)) last)) in
    subst (λ (l : LinkSeen). Rises 0 (numbers (x ∷ links)) l.link) at (rises_last 0 high (x ∷ links) (length links) link rises refl)

-- the link that is here and has the number is the first of the number
pub place_any : (number high : ℕ) (links : List LinkSeen) (place : ℕ) → Rises 0 (numbers links) high → Some place ≡ position (is_at number) links → Some place ≡ position (has_that number) links
place_any number high [] place rises found = absurd (omega (arith, (position_some (is_at number) [] place found).0))
place_any number high (x ∷ links) place rises found =
    let is = position_some (is_at number) (x ∷ links) place found in
    let within : position_or_len (is_at number) (x ∷ links) < length (x ∷ links) = omega (arith, is.0, is.1) in
    let at : is_at number (get_or (x ∷ links) place x) ≡ true = ap (λ n. is_at number (get_or (x ∷ links) n x)) (sym is.1) ∙ passes_at_first (is_at number) (x ∷ links) x within in
    place_found number high (x ∷ links) rises place x is.0 (eqb-true (get_or (x ∷ links) place x).link number (and_parts _ _ at).0)
