-- Links whose numbers rise.
use Rattle.std.proofs.Common.{◌≡◌, ◌≢◌, ℕ, zero, suc, set, ◌+◌, ◌<◌, ◌≤◌, ◌==◌, inl, inr, not, Bool, true, false, cond, Option, Some, List, [], ◌∷◌, ◌++◌, length, get_or, refl, sym, ap, ◌∙◌, arith}
use Rattle.std.specs.List.{All, filter, remove, slice_get}
use Rattle.std.specs.List.Sorted.{IsNonDecreasingBy, IsPartitionPoint}
use Rattle.std.specs.Io.KnownBytes.{Appends}
use Rattle.std.specs.Option.{IfSome, option_map}
use Rattle.std.specs.Ordering.{nat_cmp, ordering_index}
use Rattle.std.specs.declared.cmp.Ordering.TheVariants.{Greater, Less}
use Rattle.std.proofs.lemmas.Bool.{cases_lt}
use Rattle.std.proofs.lemmas.Bool.Decides.{nat_tests}
use Rattle.std.proofs.lemmas.Cmp.{by_ranked, ranked}
use Rattle.std.proofs.lemmas.List.{get_or-map, length-map}
use Rattle.std.proofs.lemmas.List.Elements.{All-append, All-filter}
use Rattle.std.proofs.lemmas.List.Kept.{AllPairs-filter}
use Rattle.std.proofs.lemmas.List.Quantifiers.{all_pairs_push}
use Rattle.mio_wire.specs.Linked.{IsCounted, IsRising, at_place, dropped, numbers, without}
use Rattle.mio_wire.specs.declared.links.Link.{Link}
use Rattle.mio_wire.proofs.HeldLemmas.{contains_at}

pub rising_push : (made : ℕ) (ns : List ℕ) → IsRising ns → IsCounted made ns → IsRising (ns ++ (made + 1) ∷ [])
rising_push made ns rising counted = all_pairs_push (λ a b. a < b) ns (made + 1) rising (λ k d lt. omega (arith, counted k d lt))

counted_one : (made : ℕ) → IsCounted (made + 1) ((made + 1) ∷ [])
counted_one made k d lt = let first : k ≡ 0 = omega arith in rw first (omega arith)

pub counted_push : (made : ℕ) (ns : List ℕ) → IsCounted made ns → IsCounted (made + 1) (ns ++ (made + 1) ∷ [])
counted_push made ns counted = All-append (λ n. n ≤ made + 1) ns ((made + 1) ∷ []) (λ k d lt. omega (arith, counted k d lt)) (counted_one made)

pub numbers-without : {S : Type 0} → (number : ℕ) (links : List (Link S)) → numbers (without number links) ≡ filter (λ n. not (n == number)) (numbers links)
numbers-without number [] = refl
numbers-without number (l ∷ links) =
    elim (not (l.number == number)) as (λ b. numbers (cond b (l ∷ without number links) (without number links)) ≡ cond b (l.number ∷ filter (λ n. not (n == number)) (numbers links)) (filter (λ n. not (n == number)) (numbers links))) [
      | true ↦ ap (λ more. l.number ∷ more) (numbers-without number links)
      | false ↦ numbers-without number links
    ]

pub rising_without : {S : Type 0} → (number : ℕ) (links : List (Link S)) → IsRising (numbers links) → IsRising (numbers (without number links))
rising_without number links rising = rw (numbers-without number links) (AllPairs-filter (λ a b. a < b) (λ n. not (n == number)) (numbers links) rising)

pub counted_without : {S : Type 0} → (made number : ℕ) (links : List (Link S)) → IsCounted made (numbers links) → IsCounted made (numbers (without number links))
counted_without made number links counted = rw (numbers-without number links) (All-filter (λ n. not (n == number)) (λ n. n ≤ made) (numbers links) counted)

-- a greater number stands no earlier among the answers
index_le : (a b number : ℕ) → a ≤ b → ordering_index (nat_cmp a number) ≤ ordering_index (nat_cmp b number)
index_le a b number le =
    by_ranked (a < number) (a ≡ number) (number < a) (nat_cmp a number) (ranked a number (nat_cmp a number) refl)
    (λ less lt. rw less (omega arith))
    (λ equal same. by_ranked (b < number) (b ≡ number) (number < b) (nat_cmp b number) (ranked b number (nat_cmp b number) refl)
    (λ less lt. absurd (omega arith)) (λ equal' same'. rw (equal, equal') (omega arith)) (λ greater gt. rw (equal, greater) (omega arith)))
    (λ greater gt. by_ranked (b < number) (b ≡ number) (number < b) (nat_cmp b number) (ranked b number (nat_cmp b number) refl)
    (λ less lt. absurd (omega arith)) (λ equal' same'. absurd (omega arith)) (λ greater' gt'. rw (greater, greater') (omega arith)))

number_at : {S : Type 0} → (links : List (Link S)) (k : ℕ) (d : Link S) (e : ℕ) → k < length links → get_or (numbers links) k e ≡ (get_or links k d).number
number_at {S} links k d e lt = get_or-map (λ (l : Link S). l.number) links k d e lt

pub answers_rise : {S : Type 0} → (number : ℕ) (links : List (Link S)) → IsRising (numbers links) → IsNonDecreasingBy (λ l. ordering_index (nat_cmp l.number number)) links
answers_rise {S} number links rising i j d le lt = elim (cases_lt i j) [
  | inl before ↦
      let size : length (numbers links) ≡ length links = length-map links (λ (l : Link S). l.number) in
      let below : get_or (numbers links) i d.number < get_or (numbers links) j d.number = rising i j d.number before (omega arith) in
      let at : get_or (numbers links) i d.number ≡ (get_or links i d).number = number_at links i d d.number (omega arith) in
      let then : get_or (numbers links) j d.number ≡ (get_or links j d).number = number_at links j d d.number lt in
      index_le (get_or links i d).number (get_or links j d).number number (omega arith)
  | inr after ↦ let same : i ≡ j = omega arith in rw same (omega arith)
]

differs_less : (a number : ℕ) → nat_cmp a number ≡ Less → a ≢ number
differs_less a number less = let lt : a < number = ranked a number Less (sym less) in λ same. omega arith

differs_greater : (a number : ℕ) → nat_cmp a number ≡ Greater → a ≢ number
differs_greater a number greater = let gt : number < a = ranked a number Greater (sym greater) in λ same. omega arith

some_link : {S : Type 0} → (links : List (Link S)) (k : ℕ) → k < length links → Link S
some_link [] k lt = absurd (omega arith)
some_link (l ∷ links) k lt = l

-- a search that finds none in rising numbers shows that there is none
pub none_found : {S : Type 0} → (number place : ℕ) (links : List (Link S)) → IsRising (numbers links) →
    (IsNonDecreasingBy (λ l. ordering_index (nat_cmp l.number number)) links → IsPartitionPoint (λ l. nat_cmp l.number number ≡ Less) (λ l. nat_cmp l.number number ≡ Greater) links place) →
    All (λ n. n ≢ number) (numbers links)
none_found {S} number place links rising parts k e lt =
    let size : length (numbers links) ≡ length links = length-map links (λ (l : Link S). l.number) in
    let within : k < length links = omega arith in
    let d = some_link links k within in
    let parted = parts (answers_rise number links rising) in
    rw (number_at links k d e within) (elim (cases_lt k place) [
      | inl before ↦ differs_less (get_or links k d).number number (parted.0 k d (omega arith) before)
      | inr after ↦ differs_greater (get_or links k d).number number (parted.1 k d after within)
    ])

pub numbers-set : {S : Type 0} → (links : List (Link S)) (place : ℕ) (link d : Link S) → link.number ≡ (get_or links place d).number → numbers (set links place link) ≡ numbers links
numbers-set [] place link d same = refl
numbers-set (l ∷ links) zero link d same = ap (λ n. n ∷ numbers links) same
numbers-set (l ∷ links) (suc place) link d same = ap (λ ns. l.number ∷ ns) (numbers-set links place link d same)

-- a changed link with that number is left out as before
pub without-set : {S : Type 0} → (number : ℕ) (links : List (Link S)) (place : ℕ) (link d : Link S) → place < length links → (get_or links place d).number ≡ number → link.number ≡ number → without number (set links place link) ≡ without number links
without-set number [] place link d lt old new = refl
without-set number (l ∷ links) zero link d lt old new =
    let itself : not (number == number) ≡ false = grind (arith, nat_tests) in
    rw (old, new, itself) refl
without-set number (l ∷ links) (suc place) link d lt old new =
    ap (λ ls. cond (not (l.number == number)) (l ∷ ls) ls) (without-set number links place link d (omega arith) old new)

all_tail : (P : ℕ → Type 0) (n : ℕ) (ns : List ℕ) → All P (n ∷ ns) → All P ns
all_tail P n ns all k d lt = all (suc k) d (omega arith)

-- a number that isn't there is dropped without a change
pub dropped_none : (number : ℕ) (ns : List ℕ) → All (λ n. n ≢ number) ns → dropped number ns ≡ ns
dropped_none number [] differ = refl
dropped_none number (n ∷ ns) differ =
    let other : n ≢ number = differ 0 0 (omega arith) in
    let kept : not (n == number) ≡ true = grind (arith, nat_tests) in
    rw kept (ap (λ more. n ∷ more) (dropped_none number ns (all_tail (λ k. k ≢ number) n ns differ)))

once_more : {S : Type 0} → (number : ℕ) (l : Link S) (links : List (Link S)) (kept : Bool) → not (l.number == number) ≡ kept → without number (without number links) ≡ without number links →
    without number (cond kept (l ∷ without number links) (without number links)) ≡ cond kept (l ∷ without number links) (without number links)
once_more number l links true is twice = rw is (ap (λ more. l ∷ more) twice)
once_more number l links false is twice = twice

-- what is left out is left out once
pub without_twice : {S : Type 0} → (number : ℕ) (links : List (Link S)) → without number (without number links) ≡ without number links
without_twice number [] = refl
without_twice number (l ∷ links) = once_more number l links (not (l.number == number)) refl (without_twice number links)

-- the number of a link that stands at a place
pub number_of : {S : Type 0} → (links : List (Link S)) (place : ℕ) (link : Link S) (number : ℕ) → place < length links → link ≡ get_or links place link → option_map (λ l. l.number) (slice_get links place) ≡ Some number → link.number ≡ number
number_of [] place link number lt at is = absurd (omega arith)
number_of {S} (l ∷ links) zero link number lt at is = ap (λ (k : Link S). k.number) at ∙ cc is
number_of (l ∷ links) (suc place) link number lt at is = number_of links place link number (omega arith) at is

rising_tail : (n : ℕ) (ns : List ℕ) → IsRising (n ∷ ns) → IsRising ns
rising_tail n ns rising i j d lt within = rising (suc i) (suc j) d (omega arith) (omega arith)

rising_others : (n : ℕ) (ns : List ℕ) → IsRising (n ∷ ns) → All (λ m. m ≢ n) ns
rising_others n ns rising k d within = let lt : n < get_or ns k d = rising 0 (suc k) d (omega arith) (omega arith) in λ same. omega arith

-- where no link has that number, none is left out
pub without_none : {S : Type 0} → (number : ℕ) (links : List (Link S)) → All (λ n. n ≢ number) (numbers links) → without number links ≡ links
without_none number [] differ = refl
without_none number (l ∷ links) differ =
    let other : l.number ≢ number = differ 0 0 (omega arith) in
    let kept : not (l.number == number) ≡ true = grind (arith, nat_tests) in
    rw kept (ap (λ more. l ∷ more) (without_none number links (all_tail (λ k. k ≢ number) l.number (numbers links) differ)))

-- the only link with a number is removed where it stands
pub removed : {S : Type 0} → (number : ℕ) (links : List (Link S)) (place : ℕ) → IsRising (numbers links) → option_map (λ l. l.number) (slice_get links place) ≡ Some number → remove links place ≡ without number links
removed number [] place rising at = absurd cc
removed number (l ∷ links) zero rising at =
    let same : l.number ≡ number = cc in
    let itself : not (l.number == number) ≡ false = grind (arith, nat_tests) in
    let others : All (λ n. n ≢ number) (numbers links) = rw (← same) (rising_others l.number (numbers links) rising) in
    rw itself (sym (without_none number links others))
removed number (l ∷ links) (suc place) rising at =
    let there = contains_at links place number at in
    let lt : l.number < get_or (numbers links) there.0 number = rising 0 (suc there.0) number (omega arith) (omega (arith, there.1)) in
    let is = there.2 in
    let kept : not (l.number == number) ≡ true = grind (arith, nat_tests) in
    rw kept (ap (λ more. l ∷ more) (removed number links place (rising_tail l.number (numbers links) rising) at))

-- what is known of a link that is set at a place
pub at_place-set : {S : Type 0} → (known : S → Option (List ℕ)) (links : List (Link S)) (place : ℕ) (link : Link S) → place < length links → at_place known (set links place link) place ≡ known link.stream
unfolding at_place
at_place-set known [] place link lt = absurd (omega arith)
at_place-set known (l ∷ links) zero link lt = refl
at_place-set known (l ∷ links) (suc place) link lt = at_place-set known links place link (omega arith)

pub at_place-is : {S : Type 0} → (known : S → Option (List ℕ)) (links : List (Link S)) (place : ℕ) (link : Link S) → place < length links → link ≡ get_or links place link → at_place known links place ≡ known link.stream
unfolding at_place
at_place-is known [] place link lt is = absurd (omega arith)
at_place-is {S} known (l ∷ links) zero link lt is = ap (λ (k : Link S). known k.stream) (sym is)
at_place-is known (l ∷ links) (suc place) link lt is = at_place-is known links place link (omega arith) is

below : {S : Type 0} → (l : Link S) (links : List (Link S)) (place number : ℕ) → IsRising (numbers (l ∷ links)) → option_map (λ l. l.number) (slice_get links place) ≡ Some number → l.number < number
below l links place number rising at =
    let there = contains_at links place number at in
    let lt : l.number < get_or (numbers links) there.0 number = rising 0 (suc there.0) number (omega arith) (omega (arith, there.1)) in
    let is = there.2 in
    omega arith

-- no two links have one number
pub same_place : {S : Type 0} → (links : List (Link S)) (p q number : ℕ) → IsRising (numbers links) → option_map (λ l. l.number) (slice_get links p) ≡ Some number → option_map (λ l. l.number) (slice_get links q) ≡ Some number → p ≡ q
same_place [] p q number rising at other = absurd cc
same_place (l ∷ links) zero zero number rising at other = refl
same_place (l ∷ links) zero (suc q) number rising at other = let lt = below l links q number rising other in let is : l.number ≡ number = cc in absurd (omega arith)
same_place (l ∷ links) (suc p) zero number rising at other = let lt = below l links p number rising at in let is : l.number ≡ number = cc in absurd (omega arith)
same_place (l ∷ links) (suc p) (suc q) number rising at other = ap suc (same_place links p q number (rising_tail l.number (numbers links) rising) at other)

pub at_written : {S X : Type 0} → (known : S → Option (List ℕ)) (links : List (Link S)) (place : ℕ) (before after : Link S) (o : Option X) (bytes : X → List ℕ) → place < length links → before ≡ get_or links place before →
    IfSome o (λ w. Appends (known before.stream) (known after.stream) (bytes w)) → IfSome o (λ w. Appends (at_place known links place) (at_place known (set links place after) place) (bytes w))
at_written known links place before after o bytes lt is writes = rw (at_place-is known links place before lt is, at_place-set known links place after lt) writes
