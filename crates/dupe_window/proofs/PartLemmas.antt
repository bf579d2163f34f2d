-- A window's pairs in two parts: older ones, of which some count, and all that came late.
use Rattle.std.proofs.Common.{◌≡◌, ℕ, ◌-◌, ◌*◌, ◌≤◌, ◌<◌, Bool, true, false, true≢false, filter, max, ◌&&◌, ◌||◌, List, [], ◌∷◌, ◌++◌, length, get_or, slice_get, Option, Some, None, is_some, refl, sym, ap, subst, ◌∙◌, arith}
use Rattle.std.specs.Cmp.{IsEquivalence, and_equiv, on_equiv}
use Rattle.std.specs.List.{IsDistinct, list_all, list_any}
use Rattle.std.specs.Map.{keys_of, lookup}
use Rattle.std.specs.Option.{option_map, option_or}
use Rattle.std.proofs.lemmas.Bool.{ltb-true}
use Rattle.std.proofs.lemmas.Bool.Decides.{nat_tests}
use Rattle.std.proofs.lemmas.Cmp.{nat_list_eq_equiv}
use Rattle.std.proofs.lemmas.List.{append-nil, map-append}
use Rattle.std.proofs.lemmas.List.Elements.{filter-append}
use Rattle.std.proofs.lemmas.List.Folds.{list_any-from_Any, list_any_none}
use Rattle.std.proofs.lemmas.Map.{lookup-none}
use Rattle.std.proofs.lemmas.Map.Entries.{lookup-filter-values, none_past_head, option_filter}
use Rattle.std.proofs.lemmas.Map.Keys.{IsDistinct-push, IsDistinct-tail}
use Rattle.std.proofs.lemmas.Map.Made.{is_some-lookup}
use Rattle.std.proofs.lemmas.Option.{get_or_from_slice_get, slice_get-get_or, slice_get_within}
use Rattle.dupe_window.specs.Keys.{Key, is_same_key}
use Rattle.dupe_window.specs.Windows.{IsInOrder, IsOnce, IsRising, if_inside, is_inside, is_inside_pair, kept_pairs, moment_in}
use Rattle.dupe_window.proofs.WindowLemmas.{all_inside, filter_stronger, inside_after}

-- ---- look-ups

pub same_key_equiv : IsEquivalence is_same_key
same_key_equiv = and_equiv (on_equiv (λ key. key.source) nat_list_eq_equiv) (and_equiv (on_equiv (λ key. key.dest) nat_list_eq_equiv) (on_equiv (λ key. key.body) nat_list_eq_equiv))

lookup-append : (test : Key → Bool) (xs ys : List (Key × ℕ)) → lookup test (xs ++ ys) ≡ option_or (lookup test xs) (lookup test ys)
lookup-append test [] ys = refl
lookup-append test (x ∷ xs) ys = by (test x.0) refl (lookup-append test xs ys)
  where
    by : (b : Bool) → test x.0 ≡ b → lookup test (xs ++ ys) ≡ option_or (lookup test xs) (lookup test ys) → lookup test (x ∷ xs ++ ys) ≡ option_or (lookup test (x ∷ xs)) (lookup test ys)
    by true is rest = rw is refl
    by false is rest = rw is rest

filtered : (seconds now : ℕ) (o : Option ℕ) → option_filter (is_inside seconds now) o ≡ if_inside seconds now o
filtered seconds now None = refl
filtered seconds now (Some moment) = refl

-- what isn't found in both parts isn't in the second
pub not_late : (test : Key → Bool) (older late : List (Key × ℕ)) → lookup test (older ++ late) ≡ None → lookup test late ≡ None
not_late test older late none = by (lookup test older) (sym (lookup-append test older late) ∙ none)
  where
    by : (o : Option ℕ) → option_or o (lookup test late) ≡ None → lookup test late ≡ None
    by None h = h
    by (Some moment) h = absurd (cc)

either_none : (o : Option ℕ) → o ≡ option_or o None
either_none None = refl
either_none (Some moment) = refl

-- where no key is in both parts, it doesn't matter which is looked at first
either_first : (key : Key) (xs ys : List (Key × ℕ)) → IsOnce (xs ++ ys)
    → option_or (lookup (is_same_key key) xs) (lookup (is_same_key key) ys) ≡ option_or (lookup (is_same_key key) ys) (lookup (is_same_key key) xs)
either_first key [] ys once = either_none (lookup (is_same_key key) ys)
either_first key (x ∷ xs) ys once =
    by (is_same_key key x.0) refl (either_first key xs ys (IsDistinct-tail is_same_key x.0 (keys_of (xs ++ ys)) once))
    (λ is. not_late (is_same_key key) xs ys (lookup-none (is_same_key key) (xs ++ ys) (none_past_head same_key_equiv key x (xs ++ ys) once is)))
  where
    by : (b : Bool) → is_same_key key x.0 ≡ b
        → option_or (lookup (is_same_key key) xs) (lookup (is_same_key key) ys) ≡ option_or (lookup (is_same_key key) ys) (lookup (is_same_key key) xs)
        → (is_same_key key x.0 ≡ true → lookup (is_same_key key) ys ≡ None)
        → option_or (lookup (is_same_key key) (x ∷ xs)) (lookup (is_same_key key) ys) ≡ option_or (lookup (is_same_key key) ys) (lookup (is_same_key key) (x ∷ xs))
    by true is rest gone = rw (is, gone is) refl
    by false is rest gone = rw is rest

-- a look-up of the pairs that count is one of the late ones, and else of the older ones, whose moment has to be inside
pub lookup-kept_pairs : (seconds last : ℕ) (key : Key) (older late : List (Key × ℕ)) → IsOnce older → IsOnce (kept_pairs seconds last older late)
    → lookup (is_same_key key) (kept_pairs seconds last older late) ≡ option_or (lookup (is_same_key key) late) (if_inside seconds last (lookup (is_same_key key) older))
lookup-kept_pairs seconds last key older late once all =
    lookup-append (is_same_key key) (filter (is_inside_pair seconds last) older) late
    ∙ either_first key (filter (is_inside_pair seconds last) older) late all
    ∙ ap (option_or (lookup (is_same_key key) late)) (lookup-filter-values same_key_equiv (is_inside seconds last) key older once ∙ filtered seconds last (lookup (is_same_key key) older))

-- a new key may go last
pub once_push : (pairs : List (Key × ℕ)) (key : Key) (now : ℕ) → IsOnce pairs → lookup (is_same_key key) pairs ≡ None → IsOnce (pairs ++ (key, now) ∷ [])
once_push pairs key now once new =
    subst (IsDistinct is_same_key) (sym (map-append (λ pair. pair.0) pairs ((key, now) ∷ [])))
    (IsDistinct-push same_key_equiv (keys_of pairs) key once (sym (is_some-lookup (is_same_key key) pairs) ∙ ap is_some new))

-- ---- filters

pub filter_both : {X : Type 0} (p q r : X → Bool) → ((x : X) → r x ≡ (p x && q x)) → (xs : List X) → filter q (filter p xs) ≡ filter r xs
filter_both p q r is [] = refl
filter_both p q r is (x ∷ xs) = by (p x) (q x) refl refl (is x) (filter_both p q r is xs)
  where
    by : (a b : Bool) → p x ≡ a → q x ≡ b → r x ≡ (p x && q x) → filter q (filter p xs) ≡ filter r xs → filter q (filter p (x ∷ xs)) ≡ filter r (x ∷ xs)
    by true true first second both rest = rw (both, first, second) (ap (λ l. x ∷ l) rest)
    by true false first second both rest = rw (both, first, second) rest
    by false b first second both rest = rw (both, first) rest

pub filter_none : {X : Type 0} (p : X → Bool) (xs : List X) → list_any p xs ≡ false → filter p xs ≡ []
filter_none p [] none = refl
filter_none p (x ∷ xs) none = by (p x) refl none (filter_none p xs)
  where
    by : (b : Bool) → p x ≡ b → list_any p (x ∷ xs) ≡ false → (list_any p xs ≡ false → filter p xs ≡ []) → filter p (x ∷ xs) ≡ []
    by true is h rest = absurd (true≢false (sym (ap (λ b. b || list_any p xs) is) ∙ h))
    by false is h rest = rw is (rest (sym (ap (λ b. b || list_any p xs) is) ∙ h))

pub filter_twice : {X : Type 0} (p : X → Bool) (xs : List X) → filter p (filter p xs) ≡ filter p xs
filter_twice p xs = filter_stronger p p (λ x passes. passes) xs

-- ---- what is inside

inside_both : (seconds before now moment : ℕ) → is_inside seconds (max before now) moment ≡ (is_inside seconds before moment && is_inside seconds now moment)
inside_both seconds before now moment = grind (arith, nat_tests)

-- what is inside now and was so before is inside at the later of the two
pub filter_later : (seconds before now : ℕ) (pairs : List (Key × ℕ))
    → filter (is_inside_pair seconds now) (filter (is_inside_pair seconds before) pairs) ≡ filter (is_inside_pair seconds (max before now)) pairs
filter_later seconds before now = filter_both (is_inside_pair seconds before) (is_inside_pair seconds now) (is_inside_pair seconds (max before now)) (λ pair. inside_both seconds before now pair.1)

pub inside_twice : (seconds now moment : ℕ) → is_inside seconds now moment ≡ true → is_inside (2 * seconds) now moment ≡ true
inside_twice seconds now moment inside = grind (arith, nat_tests, ltb-true _ _ inside)

pub list_all-filter_weaker : {X : Type 0} (p q : X → Bool) → ((x : X) → p x ≡ true → q x ≡ true) → (xs : List X) → list_all q (filter p xs) ≡ true
list_all-filter_weaker p q gives [] = refl
list_all-filter_weaker p q gives (x ∷ xs) = by (p x) refl (list_all-filter_weaker p q gives xs)
  where
    by : (b : Bool) → p x ≡ b → list_all q (filter p xs) ≡ true → list_all q (filter p (x ∷ xs)) ≡ true
    by true is rest = rw (is, gives x is) rest
    by false is rest = rw is rest

-- where moments rise, the first tells whether all are inside
pub first_tells : (seconds now : ℕ) (pairs : List (Key × ℕ)) (moment : ℕ) → IsRising pairs → Some moment ≡ option_map moment_in (slice_get pairs 0)
    → list_all (is_inside_pair seconds now) pairs ≡ is_inside seconds now moment
first_tells seconds now [] moment rising is = absurd (cc)
first_tells seconds now (first ∷ pairs) moment rising is = by (is_inside seconds now first.1) refl
  where
    same : first.1 ≡ moment
    same = cc

    by : (b : Bool) → is_inside seconds now first.1 ≡ b → list_all (is_inside_pair seconds now) (first ∷ pairs) ≡ is_inside seconds now moment
    by true inside = all_inside seconds now (first ∷ pairs) rising (rw inside refl) ∙ sym inside ∙ ap (is_inside seconds now) same
    by false past = rw past refl ∙ sym past ∙ ap (is_inside seconds now) same

no_first : (pairs : List (Key × ℕ)) → None ≡ option_map moment_in (slice_get pairs 0) → pairs ≡ []
no_first [] is = refl
no_first (first ∷ pairs) is = absurd (cc)

pub none_tells_all : (seconds now : ℕ) (pairs : List (Key × ℕ)) → None ≡ option_map moment_in (slice_get pairs 0) → true ≡ list_all (is_inside_pair seconds now) pairs
none_tells_all seconds now pairs is = ap (list_all (is_inside_pair seconds now)) (sym (no_first pairs is))

-- and the last whether any is
last_pair_tells : (seconds now : ℕ) (pairs : List (Key × ℕ)) (pair : Key × ℕ) → IsRising pairs → slice_get pairs (length pairs - 1) ≡ Some pair → list_any (is_inside_pair seconds now) pairs ≡ is_inside seconds now pair.1
last_pair_tells seconds now pairs pair rising is = by (is_inside seconds now pair.1) refl
  where
    within : length pairs - 1 < length pairs
    within = slice_get_within pairs (length pairs - 1) pair is

    at : (d : Key × ℕ) → get_or pairs (length pairs - 1) d ≡ pair
    at d = get_or_from_slice_get pairs (length pairs - 1) pair d is

    past : is_inside seconds now pair.1 ≡ false → (k : ℕ) (d : Key × ℕ) → k < length pairs → is_inside_pair seconds now (get_or pairs k d) ≡ false
    past out k d inside = by_one (is_inside_pair seconds now (get_or pairs k d)) refl
      where
        by_one : (b : Bool) → is_inside_pair seconds now (get_or pairs k d) ≡ b → is_inside_pair seconds now (get_or pairs k d) ≡ false
        by_one true h =
            let below : (get_or pairs k d).1 ≤ pair.1 = subst (λ p. (get_or pairs k d).1 ≤ p.1) (at d) (rising k (length pairs - 1) d (omega arith) within) in
            absurd (true≢false (sym (inside_after seconds now (get_or pairs k d).1 pair.1 below h) ∙ out))
        by_one false h = h

    by : (b : Bool) → is_inside seconds now pair.1 ≡ b → list_any (is_inside_pair seconds now) pairs ≡ is_inside seconds now pair.1
    by true inside = list_any-from_Any (is_inside_pair seconds now) pairs (length pairs - 1, pair, within, at pair, inside) ∙ sym inside
    by false out = list_any_none (is_inside_pair seconds now) pairs (past out) ∙ sym out

pub last_tells : (seconds now : ℕ) (pairs : List (Key × ℕ)) (moment : ℕ) → IsRising pairs → Some moment ≡ option_map moment_in (slice_get pairs (length pairs - 1))
    → list_any (is_inside_pair seconds now) pairs ≡ is_inside seconds now moment
last_tells seconds now pairs moment rising is = by (slice_get pairs (length pairs - 1)) refl is
  where
    by : (o : Option (Key × ℕ)) → slice_get pairs (length pairs - 1) ≡ o → Some moment ≡ option_map moment_in o → list_any (is_inside_pair seconds now) pairs ≡ is_inside seconds now moment
    by None at h = absurd (cc)
    by (Some pair) at h = let same : pair.1 ≡ moment = cc in last_pair_tells seconds now pairs pair rising at ∙ ap (is_inside seconds now) same

pub none_tells_any : (seconds now : ℕ) (pairs : List (Key × ℕ)) → None ≡ option_map moment_in (slice_get pairs (length pairs - 1)) → false ≡ list_any (is_inside_pair seconds now) pairs
none_tells_any seconds now [] is = refl
none_tells_any seconds now (first ∷ pairs) is =
    absurd (some≢none (sym (ap (option_map moment_in) (slice_get-get_or (first ∷ pairs) (length (first ∷ pairs) - 1) first (omega arith))) ∙ sym is))
  where
    some≢none : {moment : ℕ} → Some moment ≡ None → ⊥
    some≢none h = absurd (cc)

-- no pairs are in order
pub none_in_order : (pairs : List (Key × ℕ)) → pairs ≡ [] → IsInOrder pairs
unfolding IsDistinct
none_in_order pairs none = subst IsInOrder (sym none) (tt, λ i j d le within. absurd (omega arith))

-- ---- the two parts

-- where no older pair counts, those that came late may become older ones
pub turned : (seconds now : ℕ) (older late : List (Key × ℕ)) → list_any (is_inside_pair seconds now) older ≡ false
    → kept_pairs seconds now late [] ≡ kept_pairs seconds now older (filter (is_inside_pair seconds now) late)
turned seconds now older late none =
    append-nil (filter (is_inside_pair seconds now) late)
    ∙ ap (λ l. l ++ filter (is_inside_pair seconds now) late) (sym (filter_none (is_inside_pair seconds now) older none))

kept_pairs-filter : (seconds before now : ℕ) (older late : List (Key × ℕ))
    → filter (is_inside_pair seconds now) (kept_pairs seconds before older late) ≡ kept_pairs seconds (max before now) older (filter (is_inside_pair seconds now) late)
kept_pairs-filter seconds before now older late =
    filter-append (is_inside_pair seconds now) (filter (is_inside_pair seconds before) older) late
    ∙ ap (λ l. l ++ filter (is_inside_pair seconds now) late) (filter_later seconds before now older)

-- what is kept at the later of two moments, where the late pairs are gone through, is what was kept and is inside now
pub forgotten : (seconds before now last : ℕ) (older late older_left late_left : List (Key × ℕ)) → last ≡ max before now
    → kept_pairs seconds last older_left late_left ≡ kept_pairs seconds last older (filter (is_inside_pair seconds now) late)
    → kept_pairs seconds last older_left late_left ≡ filter (is_inside_pair seconds now) (kept_pairs seconds before older late)
forgotten seconds before now last older late older_left late_left latest left =
    left
    ∙ ap (λ moment. kept_pairs seconds moment older (filter (is_inside_pair seconds now) late)) latest
    ∙ sym (kept_pairs-filter seconds before now older late)
