-- A step at the link of one number, among links whose numbers rise.
use Rattle.std.proofs.lemmas.Simd.{map-map}
use Rattle.std.proofs.lemmas.List.{map-append}
use Rattle.aprs_history.proofs.NumberLemmas.{rises_lower, rises_pushed}
use Rattle.std.proofs.Common.{◌≡◌, ℕ, zero, suc, ◌+◌, ◌≤◌, ◌<◌, Bool, true, false, List, [], ◌∷◌, length, get_or, map, refl, sym, ap, ◌∙◌, subst, arith, eq-eqb, Some, None, slice_set, ⊎_elim, cond, nat_lt, ◌||◌, ◌++◌, filter}
use Rattle.std.specs.List.{position, position_or_len, list_any}
use Rattle.std.proofs.lemmas.Bool.{ltb-true, ltb-false, cases_Bool, false_from_ne_true, eqb-true, true≢false}
use Rattle.std.proofs.lemmas.List.Sums.{passes_at_first, fails_before_first}
use Rattle.std.proofs.lemmas.List.Folds.{list_any_none}
use Rattle.aprs_history.specs.Stands.{LinkSeen}
use Rattle.served_links.specs.Links.{Rises, has_that, picked_at, has_number, numbers, number_of}
use Rattle.served_links.specs.Changes.{at_link}

-- numbers that differ
pub not_that : (number : ℕ) (link : LinkSeen) → (link.link ≡ number → ⊥) → has_that number link ≡ false
not_that number link ne = false_from_ne_true _ (λ is. ne (eqb-true link.link number is))

pub is_that : (number : ℕ) (link : LinkSeen) → link.link ≡ number → has_that number link ≡ true
is_that number link is = eq-eqb link.link number is

pub above : (low high : ℕ) (links : List LinkSeen) (place : ℕ) (d : LinkSeen) → Rises low (numbers links) high → place < length links → low < (get_or links place d).link
above low high [] place d rises lt = absurd (omega arith)
above low high (x ∷ links) zero d rises lt = rises.0
above low high (x ∷ links) (suc place) d rises lt = let later = above x.link high links place d rises.1 (omega arith) in let first = rises.0 in omega arith

module _ (number : ℕ) (step : LinkSeen → LinkSeen) where
  -- links above a number are not it
  pub others_above : (low high : ℕ) (links : List LinkSeen) → Rises low (numbers links) high → number ≤ low → map (at_link number step) links ≡ links
  others_above low high [] rises le = refl
  others_above low high (x ∷ links) rises le =
      let first = rises.0 in
      let other : has_that number x ≡ false = not_that number x (λ is. omega arith) in
      rw other (ap (λ xs. x ∷ xs) (others_above x.link high links rises.1 (omega arith)))

  pub changed_at : (low high : ℕ) (links : List LinkSeen) (place : ℕ) (link : LinkSeen) → Rises low (numbers links) high → place < length links
      → link ≡ get_or links place link → link.link ≡ number → slice_set links place (step link) ≡ map (at_link number step) links
  changed_at low high [] place link rises lt at is = absurd (omega arith)
  changed_at low high (x ∷ links) zero link rises lt at is =
      let here : has_that number x ≡ true = is_that number x (ap (λ (l : LinkSeen). l.link) (sym at) ∙ is) in
      let le : number ≤ x.link = omega (arith, ap (λ (l : LinkSeen). l.link) (sym at) ∙ is) in
      rw (here, others_above x.link high links rises.1 le) (ap (λ l. step l ∷ links) at)
  changed_at low high (x ∷ links) (suc place) link rises lt at is =
      let later : x.link < link.link = subst (λ (l : LinkSeen). x.link < l.link) (sym at) (above x.link high links place link rises.1 (omega arith)) in
      let other : has_that number x ≡ false = not_that number x (λ eq. omega arith) in
      rw other (ap (λ xs. x ∷ xs) (changed_at x.link high links place link rises.1 (omega arith) at is))

  pub changed_none : (links : List LinkSeen) → has_number number links ≡ false → map (at_link number step) links ≡ links
  changed_none [] none = refl
  changed_none (x ∷ links) none =
      ⊎_elim
      (λ here. absurd (true≢false (sym (ap (λ b. b || has_number number links) here) ∙ none)))
      (λ other. rw other (ap (λ xs. x ∷ xs) (changed_none links (rw other at none))))
      (cases_Bool (has_that number x))

-- what a search for a place answers
module _ {X : Type 0} (test : X → Bool) where
  pub position_some : (xs : List X) (i : ℕ) → Some i ≡ position test xs → (i < length xs) × (position_or_len test xs ≡ i)
  position_some xs i is =
      ⊎_elim
      (λ within. let same : Some i ≡ Some (position_or_len test xs) = rw within at is in (
      let place : position_or_len test xs ≡ i = cc in (omega (arith, ltb-true (position_or_len test xs) (length xs) within), place)))
      (λ past. let none : Some i ≡ None = rw past at is in absurd (cc))
      (cases_Bool (nat_lt (position_or_len test xs) (length xs)))

  pub position_none : (xs : List X) → None ≡ position test xs → list_any test xs ≡ false
  position_none xs is =
      ⊎_elim
      (λ within. let some : None ≡ Some (position_or_len test xs) = rw within at is in absurd (cc))
      (λ past. let all : length xs ≤ position_or_len test xs = ltb-false (position_or_len test xs) (length xs) past in
      list_any_none test xs (λ k d lt. fails_before_first test xs k d (omega arith)))
      (cases_Bool (nat_lt (position_or_len test xs) (length xs)))

  pub position_there : (xs : List X) (i : ℕ) → Some i ≡ position test xs → list_any test xs ≡ true
  position_there xs i is = there xs (omega (arith, (position_some xs i is).0, (position_some xs i is).1))
    where
      there : (xs : List X) → position_or_len test xs < length xs → list_any test xs ≡ true
      there [] lt = absurd (omega arith)
      there (x ∷ xs) lt = ⊎_elim
          (λ here. ap (λ b. b || list_any test xs) here)
          (λ other. ap (λ b. b || list_any test xs) other ∙ there xs (let later : 1 + position_or_len test xs < length (x ∷ xs) = rw other at lt in omega arith))
          (cases_Bool (test x))

-- the link that a search found, as a step leaves it
pub changed_by : (number : ℕ) (step : LinkSeen → LinkSeen) (high : ℕ) (links : List LinkSeen) (place : ℕ) (link new : LinkSeen)
    → Rises 0 (numbers links) high → Some place ≡ position (has_that number) links → link ≡ get_or links place link → new ≡ step link
    → slice_set links place new ≡ map (at_link number step) links
changed_by number step high links place link new rises found at is =
    let place_is = position_some (has_that number) links place found in
    let within : position_or_len (has_that number) links < length links = omega (arith, place_is.0, place_is.1) in
    let passes : has_that number (get_or links (position_or_len (has_that number) links) link) ≡ true = passes_at_first (has_that number) links link within in
    let same : link.link ≡ number = eqb-true link.link number (ap (has_that number) (at ∙ ap (λ n. get_or links n link) (sym place_is.1)) ∙ passes) in
    ap (slice_set links place) is ∙ changed_at number step 0 high links place link rises place_is.0 at same

pub changed_nowhere : (number : ℕ) (step : LinkSeen → LinkSeen) (links : List LinkSeen) → None ≡ position (has_that number) links → links ≡ map (at_link number step) links
changed_nowhere number step links none = sym (changed_none number step links (position_none (has_that number) links none))

-- what is picked at the place where the link of a number stands, and where it is nowhere
module _ {X : Type 0} (pick : LinkSeen → X) (none : X) (number : ℕ) where
  picked_here : (links : List LinkSeen) (place : ℕ) (d : LinkSeen) → place < length links → position_or_len (has_that number) links ≡ place
      → picked_at pick none number links ≡ pick (get_or links place d)
  picked_here [] place d lt is = absurd (omega arith)
  picked_here (x ∷ links) place d lt is =
      ⊎_elim
      (λ here. let zero_is : 0 ≡ place = rw here at is in rw here (subst (λ n. pick x ≡ pick (get_or (x ∷ links) n d)) zero_is refl))
      (λ other.
      let plus : 1 + position_or_len (has_that number) links ≡ place = rw other at is in
      let later : suc (position_or_len (has_that number) links) ≡ place = omega arith in
      rw other (subst (λ n. picked_at pick none number links ≡ pick (get_or (x ∷ links) n d)) later (picked_here links (position_or_len (has_that number) links) d (omega arith) refl)))
      (cases_Bool (has_that number x))

  pub picked_found : (links : List LinkSeen) (place : ℕ) (d : LinkSeen) → Some place ≡ position (has_that number) links → d ≡ get_or links place d → picked_at pick none number links ≡ pick d
  picked_found links place d found at =
      let place_is = position_some (has_that number) links place found in picked_here links place d place_is.0 place_is.1 ∙ ap pick (sym at)

  picked_nowhere : (links : List LinkSeen) → list_any (has_that number) links ≡ false → picked_at pick none number links ≡ none
  picked_nowhere [] is = refl
  picked_nowhere (x ∷ links) is =
      ⊎_elim
      (λ here. absurd (true≢false (sym (ap (λ b. b || has_number number links) here) ∙ is)))
      (λ other. rw other (picked_nowhere links (rw other at is)))
      (cases_Bool (has_that number x))

  pub picked_none : (links : List LinkSeen) → None ≡ position (has_that number) links → picked_at pick none number links ≡ none
  picked_none links missing = picked_nowhere links (position_none (has_that number) links missing)

-- ---- numbers go on rising

pub rises_filter : (p : LinkSeen → Bool) (low high : ℕ) (links : List LinkSeen) → Rises low (numbers links) high → Rises low (numbers (filter p links)) high
rises_filter p low high [] rises = rises
rises_filter p low high (x ∷ links) rises = by (p x) (rises_filter p x.link high links rises.1)
  where
    by : (b : Bool) → Rises x.link (numbers (filter p links)) high → Rises low (numbers (cond b (x ∷ filter p links) (filter p links))) high
    by true later = (rises.0, later)
    by false later = let first : low < x.link = rises.0 in rises_lower low x.link high (numbers (filter p links)) (omega arith) later

pub rises_push : (low high : ℕ) (links : List LinkSeen) (new : LinkSeen) → Rises low (numbers links) high → high < new.link → Rises low (numbers (links ++ new ∷ [])) new.link
rises_push low high links new rises lt = subst (λ ns. Rises low ns new.link) (sym (map-append number_of links (new ∷ []))) (rises_pushed low high new.link (numbers links) lt rises)

-- a step that keeps the number keeps all numbers
pub numbers_kept : (f : LinkSeen → LinkSeen) → ((link : LinkSeen) → (f link).link ≡ link.link) → (links : List LinkSeen) → numbers (map f links) ≡ numbers links
numbers_kept f same links = map-map number_of f links ∙ (λ k. map (λ link. same link k) links)

pub at_keeps : (number : ℕ) (step : LinkSeen → LinkSeen) → ((link : LinkSeen) → (step link).link ≡ link.link) → (link : LinkSeen) → (at_link number step link).link ≡ link.link
at_keeps number step same link = elim (has_that number link) as (λ b. (cond b (step link) link).link ≡ link.link) [ true ↦ same link | false ↦ refl ]

-- links that a step at one number leaves rise as before
pub rises_at : (number : ℕ) (step : LinkSeen → LinkSeen) → ((link : LinkSeen) → (step link).link ≡ link.link) → (high : ℕ) (links new : List LinkSeen)
    → new ≡ map (at_link number step) links → Rises 0 (numbers links) high → Rises 0 (numbers new) high
rises_at number step same high links new is rises =
    subst (λ ns. Rises 0 ns high) (sym (ap numbers is ∙ numbers_kept (at_link number step) (at_keeps number step same) links)) rises
