-- What is inside a window, and up to which moment it goes.
use Rattle.std.proofs.Common.{◌≡◌, ℕ, ◌-◌, ◌≤◌, ◌<◌, Bool, true, false, nat_le, filter, List, [], ◌∷◌, ◌++◌, length, get_or, take, Option, Some, None, IfSome, is_some, refl, ap, ◌∙◌, arith}
use Rattle.std.specs.List.{list_all}
use Rattle.std.proofs.lemmas.Bool.{and_parts, ltb-true, leb-true}
use Rattle.std.proofs.lemmas.Bool.Decides.{nat_tests}
use Rattle.std.proofs.lemmas.List.Elements.{filter_passes, All-filter}
use Rattle.std.proofs.lemmas.List.Folds.{list_all-append}
use Rattle.std.proofs.lemmas.List.Sorted.{IsNonDecreasingBy-push}
use Rattle.std.proofs.lemmas.List.Sums.{AllPass-from_list_all, list_all-from_AllPass}
use Rattle.std.proofs.lemmas.Map.Entries.{All-lookup}
use Rattle.dupe_window.specs.Keys.{Key, is_same_key}
use Rattle.dupe_window.specs.Windows.{IsRising, IsUpTo, WindowSeen, expired, if_inside, is_inside, is_inside_pair, is_up_to, kept_at, seen_at, with_key, with_new}

-- ---- lists

-- a filter that each element passes takes nothing away
pub filter_whole : {X : Type 0} (p : X → Bool) (xs : List X) → list_all p xs ≡ true → filter p xs ≡ xs
filter_whole p [] h = refl
filter_whole p (x ∷ xs) h = let parts : (p x ≡ true) × (list_all p xs ≡ true) = and_parts _ _ h in rw parts.0 (ap (λ l. x ∷ l) (filter_whole p xs parts.1))

-- a filter by a weaker test before it changes nothing
pub filter_stronger : {X : Type 0} (p q : X → Bool) → ((x : X) → q x ≡ true → p x ≡ true) → (xs : List X) → filter q (filter p xs) ≡ filter q xs
filter_stronger p q gives [] = refl
filter_stronger p q gives (x ∷ xs) = by (p x) (q x) refl refl (filter_stronger p q gives xs)
  where
    by : (a b : Bool) → p x ≡ a → q x ≡ b → filter q (filter p xs) ≡ filter q xs → filter q (filter p (x ∷ xs)) ≡ filter q (x ∷ xs)
    by true true is passes rest = rw (is, passes) (ap (λ l. x ∷ l) rest)
    by true false is fails rest = rw (is, fails) rest
    by false true is passes rest = let gone : p x ≡ true = gives x passes in absurd (cc)
    by false false is fails rest = rw (is, fails) rest

pub list_all-filter : {X : Type 0} (p : X → Bool) (xs : List X) → list_all p (filter p xs) ≡ true
list_all-filter p xs = list_all-from_AllPass p (filter p xs) (filter_passes p xs)

-- ---- what is inside

-- of two moments the later one is inside where the earlier is
pub inside_after : (seconds now earlier later : ℕ) → earlier ≤ later → is_inside seconds now earlier ≡ true → is_inside seconds now later ≡ true
inside_after seconds now earlier later le inside = grind (arith, nat_tests, ltb-true _ _ inside)

-- what is inside was so before
pub inside_before : (seconds before now moment : ℕ) → before ≤ now → is_inside seconds now moment ≡ true → is_inside seconds before moment ≡ true
inside_before seconds before now moment le inside = grind (arith, nat_tests, ltb-true _ _ inside)

-- where moments rise, all are inside if the first is
pub all_inside : (seconds now : ℕ) (pairs : List (Key × ℕ)) → IsRising pairs → list_all (is_inside_pair seconds now) (take 1 pairs) ≡ true → list_all (is_inside_pair seconds now) pairs ≡ true
all_inside seconds now [] rising first = refl
all_inside seconds now (pair ∷ pairs) rising first =
    let inside : (is_inside seconds now pair.1 ≡ true) × (true ≡ true) = and_parts _ _ first in
    list_all-from_AllPass (is_inside_pair seconds now) (pair ∷ pairs)
    (λ k d within. inside_after seconds now pair.1 (get_or (pair ∷ pairs) k d).1 (rising 0 k d (omega arith) within) inside.0)

pub inside_expired : (now : ℕ) (window : WindowSeen) → list_all (is_inside_pair window.seconds now) (expired now window).pairs ≡ true
inside_expired now window = list_all-filter (is_inside_pair window.seconds now) window.pairs

pub inside_with_key : (now : ℕ) (key : Key) (window : WindowSeen) → 0 < window.seconds → list_all (is_inside_pair window.seconds now) window.pairs ≡ true
    → list_all (is_inside_pair window.seconds now) (with_key key now window).pairs ≡ true
inside_with_key now key window lasts inside =
    list_all-append (is_inside_pair window.seconds now) window.pairs ((key, now) ∷ []) ∙ (let here : is_inside window.seconds now now ≡ true = grind (arith, nat_tests) in rw (inside, here) refl)

if_inside_there : (seconds now : ℕ) (o : Option ℕ) → IfSome o (λ moment. is_inside seconds now moment ≡ true) → if_inside seconds now o ≡ o
if_inside_there seconds now None h = refl
if_inside_there seconds now (Some moment) h = rw h refl

-- where all are inside, what is kept is seen
pub seen_at-kept : (now : ℕ) (key : Key) (window : WindowSeen) → list_all (is_inside_pair window.seconds now) window.pairs ≡ true → seen_at now key window ≡ kept_at window key
seen_at-kept now key window inside =
    if_inside_there window.seconds now (kept_at window key)
    (All-lookup (λ moment. is_inside window.seconds now moment ≡ true) (is_same_key key) window.pairs (AllPass-from_list_all (is_inside_pair window.seconds now) window.pairs inside))

-- ---- what is put in

-- where a key is seen nothing is put in
pub with_new-seen : (key : Key) (now : ℕ) (window : WindowSeen) → is_some (seen_at now key window) ≡ true → window ≡ with_new key now window
with_new-seen key now window seen = rw seen refl

pub with_new-unseen : (key : Key) (now : ℕ) (window : WindowSeen) → is_some (seen_at now key window) ≡ false → with_key key now window ≡ with_new key now window
with_new-unseen key now window unseen = rw unseen refl

-- ---- up to which moment

pub IsUpTo-later : (now later : ℕ) (window : WindowSeen) → now ≤ later → IsUpTo now window → IsUpTo later window
IsUpTo-later now later window le up_to =
    list_all-from_AllPass (is_up_to later) window.pairs
    (λ k d within. let h : nat_le (get_or window.pairs k d).1 now ≡ true = AllPass-from_list_all (is_up_to now) window.pairs up_to k d within in grind (arith, nat_tests, leb-true _ _ h))

pub IsUpTo-with_key : (now : ℕ) (key : Key) (window : WindowSeen) → IsUpTo now window → IsUpTo now (with_key key now window)
IsUpTo-with_key now key window up_to = list_all-append (is_up_to now) window.pairs ((key, now) ∷ []) ∙ (let last : nat_le now now ≡ true = grind (arith, nat_tests) in rw (up_to, last) refl)

pub IsUpTo-expired : (moment now : ℕ) (window : WindowSeen) → IsUpTo moment window → IsUpTo moment (expired now window)
IsUpTo-expired moment now window up_to =
    list_all-from_AllPass (is_up_to moment) (expired now window).pairs
    (All-filter (is_inside_pair window.seconds now) (λ pair. is_up_to moment pair ≡ true) window.pairs (AllPass-from_list_all (is_up_to moment) window.pairs up_to))

-- a moment that none is above may go last
pub rising_push : (pairs : List (Key × ℕ)) (key : Key) (now : ℕ) → list_all (is_up_to now) pairs ≡ true → IsRising pairs → IsRising (pairs ++ (key, now) ∷ [])
rising_push pairs key now up_to rising =
    IsNonDecreasingBy-push (λ pair. pair.1) pairs (key, now) rising
    (λ d some. leb-true _ _ (AllPass-from_list_all (is_up_to now) pairs up_to (length pairs - 1) d (omega arith)))
