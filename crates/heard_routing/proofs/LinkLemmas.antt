-- Links in rising order, each with a moment.
use Rattle.std.proofs.Common.{◌≡◌, ◌≢◌, ℕ, zero, suc, ◌<◌, ◌≤◌, Bool, true, false, cond, not, filter, length, List, [], ◌∷◌, ◌++◌, Option, Some, None, is_some, Result, Ok, Err, OnOk, OnErr, refl, sym, ap, ◌∙◌, subst, nat_eq, nat_lt, slice_get, insert, get_or, arith, true≢false}
use Rattle.std.specs.List.{AllByRecursion, AllWithin, IsDistinct}
use Rattle.std.specs.List.Sorted.{IsNonDecreasingBy, IsStrictlyIncreasing, IsStrictlySortedBy}
use Rattle.std.specs.Map.{keys_of, lookup}
use Rattle.std.specs.Option.{option_or}
use Rattle.std.specs.Cmp.{nat_cmp_is}
use Rattle.std.specs.Ordering.{nat_cmp}
use Rattle.std.specs.declared.cmp.Ordering.TheVariants.{Less}
use Rattle.std.proofs.Math.ListN.{set}
use Rattle.std.proofs.lemmas.Bool.{eqb-false, eqb-true, le-ltb, lt-ltb, ltb-false, ltb-true, ne_eqb}
use Rattle.std.proofs.lemmas.Map.Entries.{lookup-filter-keys}
use Rattle.std.proofs.lemmas.Map.Keys.{IsStrictlyIncreasing-from_sorted}
use Rattle.filter_eval.specs.Passes.{is_some_and}
use Rattle.heard_routing.specs.Entries.{Entry, Rises, is_above, is_another, is_below, is_of, with_link}

-- ---- filters

pub all_filtered : {T : Type 0} (P : T → Type 0) (test : T → Bool) (xs : List T) → AllByRecursion P xs → AllByRecursion P (filter test xs)
all_filtered P test [] all = tt
all_filtered {T} P test (x ∷ xs) all = by (all_filtered P test xs all.1) (test x)
  where
    by : AllByRecursion P (filter test xs) → (b : Bool) → AllByRecursion P (cond b (x ∷ filter test xs) (filter test xs))
    by rest true = (all.0, rest)
    by rest false = rest

passing : {T : Type 0} (P : T → Type 0) (test : T → Bool) → ((x : T) → test x ≡ true → P x) → (xs : List T) → AllByRecursion P (filter test xs)
passing P test says [] = tt
passing {T} P test says (x ∷ xs) = by (passing P test says xs) (test x) refl
  where
    by : AllByRecursion P (filter test xs) → (b : Bool) → test x ≡ b → AllByRecursion P (cond b (x ∷ filter test xs) (filter test xs))
    by rest true is = (says x is, rest)
    by rest false is = rest

all_of : {T : Type 0} (P Q : T → Type 0) → ((x : T) → P x → Q x) → (xs : List T) → AllByRecursion P xs → AllByRecursion Q xs
all_of P Q more [] all = tt
all_of P Q more (x ∷ xs) all = (more x all.0, all_of P Q more xs all.1)

none_passes : {T : Type 0} (test : T → Bool) (xs : List T) → AllByRecursion (λ x. test x ≡ false) xs → filter test xs ≡ []
none_passes test [] all = refl
none_passes test (x ∷ xs) all = rw all.0 (none_passes test xs all.1)

pub all_pass : {T : Type 0} (test : T → Bool) (xs : List T) → AllByRecursion (λ x. test x ≡ true) xs → filter test xs ≡ xs
all_pass test [] all = refl
all_pass test (x ∷ xs) all = rw all.0 (ap (λ rest. x ∷ rest) (all_pass test xs all.1))

-- ---- where a link belongs

-- where each passes before a place and none after it, the place is how many pass
pub passes_before : {T : Type 0} (test : T → Bool) (xs : List T) (place : ℕ) → place ≤ length xs → AllWithin (λ x. test x ≡ true) xs 0 place → AllWithin (λ x. test x ≡ false) xs place (length xs)
    → place ≡ length (filter test xs)
passes_before test [] place within before after = omega arith
passes_before test (x ∷ xs) zero within before after =
    let first : test x ≡ false = after 0 x (omega arith) (omega arith) in
    rw first (passes_before test xs 0 (omega arith) (λ k d low high. absurd (omega (arith, high))) (λ k d low high. after (suc k) d (omega arith) (omega (arith, high))))
passes_before test (x ∷ xs) (suc place) within before after =
    let first : test x ≡ true = before 0 x (omega arith) (omega arith) in
    rw first (ap suc (passes_before test xs place (omega (arith, within)) (λ k d low high. before (suc k) d (omega arith) (omega (arith, high)))
    (λ k d low high. after (suc k) d (omega (arith, low)) (omega (arith, high)))))

pub never_falls : (links : List Entry) → Rises links → IsNonDecreasingBy (λ entry. entry.0) links
never_falls [] up i j d le lt = absurd (omega arith)
never_falls (e ∷ es) up zero zero d le lt = omega arith
never_falls (e ∷ es) up zero (suc j) d le lt = first es up.0 j (omega (arith, lt))
  where
    first : (more : List Entry) → AllByRecursion (λ other. e.0 < other.0) more → (k : ℕ) → k < length more → e.0 ≤ (get_or more k d).0
    first [] all k h = absurd (omega arith)
    first (f ∷ fs) all zero h = let low = all.0 in omega arith
    first (f ∷ fs) all (suc k) h = first fs all.1 k (omega (arith, h))
never_falls (e ∷ es) up (suc i) zero d le lt = absurd (omega arith)
never_falls (e ∷ es) up (suc i) (suc j) d le lt = never_falls es up.1 i j d (omega (arith, le)) (omega (arith, lt))

-- the others are higher than what the first isn't lower than
pub above_first : (link : ℕ) (e : Entry) (es : List Entry) → link ≤ e.0 → AllByRecursion (λ other. e.0 < other.0) es → AllByRecursion (λ other. link < other.0) es
above_first link e es h all = all_of (λ other. e.0 < other.0) (λ other. link < other.0) (λ other lt. omega (arith, h, lt)) es all

none_below : (link : ℕ) (links : List Entry) → AllByRecursion (λ other. link < other.0) links → filter (is_below link) links ≡ []
none_below link links all =
    none_passes (is_below link) links (all_of (λ other. link < other.0) (λ other. is_below link other ≡ false) (λ other lt. le-ltb other.0 link (omega (arith, lt))) links all)

all_above : (link : ℕ) (links : List Entry) → AllByRecursion (λ other. link < other.0) links → filter (is_above link) links ≡ links
all_above link links all =
    all_pass (is_above link) links (all_of (λ other. link < other.0) (λ other. is_above link other ≡ true) (λ other lt. lt-ltb link other.0 lt) links all)

nowhere : (link : ℕ) (links : List Entry) → AllByRecursion (λ other. link < other.0) links → lookup (nat_eq link) links ≡ None
nowhere link [] all = refl
nowhere link (e ∷ es) all = let first : link < e.0 = all.0 in rw (ne_eqb link e.0 (λ h. omega (arith, first, h))) (nowhere link es all.1)

abbrev pub is_there : ℕ → List Entry → ℕ → Bool
is_there link links place = is_some_and (is_of link) (slice_get links place)

-- what a write at that place gives, where the link stands there
pub put_there : (link moment : ℕ) (links : List Entry) → Rises links → is_there link links (length (filter (is_below link) links)) ≡ true
    → set links (length (filter (is_below link) links)) (link, moment) ≡ with_link link moment links
put_there link moment [] up at = absurd (true≢false (sym at))
put_there link moment (e ∷ es) up at = by (put_there link moment es up.1) (nat_lt e.0 link) refl at
  where
    lower : List Entry
    lower = filter (is_below link) es

    first : (before : List Entry) → before ≡ [] → link ≤ e.0 → is_there link (e ∷ es) (length before) ≡ true → set (e ∷ es) (length before) (link, moment) ≡ before ++ (link, moment) ∷ filter (is_above link) (e ∷ es)
    first [] none h here =
        let is : link ≡ e.0 = eqb-true link e.0 here in
        rw (le-ltb link e.0 (omega (arith, is))) (ap (λ more. (link, moment) ∷ more) (sym (all_above link es (above_first link e es h up.0))))
    first (f ∷ fs) none h here = absurd (cc)

    by : (is_there link es (length lower) ≡ true → set es (length lower) (link, moment) ≡ with_link link moment es) → (b : Bool) → nat_lt e.0 link ≡ b
        → is_there link (e ∷ es) (length (cond b (e ∷ lower) lower)) ≡ true
        → set (e ∷ es) (length (cond b (e ∷ lower) lower)) (link, moment) ≡ cond b (e ∷ lower) lower ++ (link, moment) ∷ filter (is_above link) (e ∷ es)
    by rest true is here =
        let low : e.0 < link = ltb-true e.0 link is in
        rw (le-ltb link e.0 (omega (arith, low))) (ap (λ more. e ∷ more) (rest here))
    by rest false is here =
        let high : link ≤ e.0 = ltb-false e.0 link is in
        first lower (none_below link es (above_first link e es high up.0)) high here

-- and what an insert there gives, where it doesn't
pub put_between : (link moment : ℕ) (links : List Entry) → Rises links → is_there link links (length (filter (is_below link) links)) ≡ false
    → insert links (length (filter (is_below link) links)) (link, moment) ≡ with_link link moment links
put_between link moment [] up at = refl
put_between link moment (e ∷ es) up at = by (put_between link moment es up.1) (nat_lt e.0 link) refl at
  where
    lower : List Entry
    lower = filter (is_below link) es

    first : (before : List Entry) → before ≡ [] → link ≤ e.0 → is_there link (e ∷ es) (length before) ≡ false → insert (e ∷ es) (length before) (link, moment) ≡ before ++ (link, moment) ∷ filter (is_above link) (e ∷ es)
    first [] none h here =
        let apart : link ≢ e.0 = eqb-false link e.0 here in
        let higher : link < e.0 = omega (arith, h, apart) in
        ap (λ more. (link, moment) ∷ more) (sym (all_above link (e ∷ es) (higher, above_first link e es h up.0)))
    first (f ∷ fs) none h here = absurd (cc)

    by : (is_there link es (length lower) ≡ false → insert es (length lower) (link, moment) ≡ with_link link moment es) → (b : Bool) → nat_lt e.0 link ≡ b
        → is_there link (e ∷ es) (length (cond b (e ∷ lower) lower)) ≡ false
        → insert (e ∷ es) (length (cond b (e ∷ lower) lower)) (link, moment) ≡ cond b (e ∷ lower) lower ++ (link, moment) ∷ filter (is_above link) (e ∷ es)
    by rest true is here =
        let low : e.0 < link = ltb-true e.0 link is in
        rw (le-ltb link e.0 (omega (arith, low))) (ap (λ more. e ∷ more) (rest here))
    by rest false is here =
        let high : link ≤ e.0 = ltb-false e.0 link is in
        first lower (none_below link es (above_first link e es high up.0)) high here

-- and whether it stands there
pub found_there : (link : ℕ) (links : List Entry) → Rises links → is_there link links (length (filter (is_below link) links)) ≡ is_some (lookup (nat_eq link) links)
found_there link [] up = refl
found_there link (e ∷ es) up = by (found_there link es up.1) (nat_lt e.0 link) refl
  where
    lower : List Entry
    lower = filter (is_below link) es

    first : (before : List Entry) → before ≡ [] → link ≤ e.0 → is_there link (e ∷ es) (length before) ≡ is_some (cond (nat_eq link e.0) (Some e.1) (lookup (nat_eq link) es))
    first [] none h = here (nat_eq link e.0) (nowhere link es (above_first link e es h up.0))
      where
        here : (b : Bool) → lookup (nat_eq link) es ≡ None → b ≡ is_some (cond b (Some e.1) (lookup (nat_eq link) es))
        here true gone = refl
        here false gone = rw gone refl
    first (f ∷ fs) none h = absurd (cc)

    by : is_there link es (length lower) ≡ is_some (lookup (nat_eq link) es) → (b : Bool) → nat_lt e.0 link ≡ b
        → is_there link (e ∷ es) (length (cond b (e ∷ lower) lower)) ≡ is_some (cond (nat_eq link e.0) (Some e.1) (lookup (nat_eq link) es))
    by rest true is =
        let low : e.0 < link = ltb-true e.0 link is in
        rw (ne_eqb link e.0 (λ h. omega (arith, low, h))) rest
    by rest false is =
        let high : link ≤ e.0 = ltb-false e.0 link is in
        first lower (none_below link es (above_first link e es high up.0)) high

-- ---- what goes on to rise

pub rises_filtered : (test : Entry → Bool) (links : List Entry) → Rises links → Rises (filter test links)
rises_filtered test [] up = tt
rises_filtered test (e ∷ es) up = by (rises_filtered test es up.1) (test e)
  where
    by : Rises (filter test es) → (b : Bool) → Rises (cond b (e ∷ filter test es) (filter test es))
    by rest true = (all_filtered (λ other. e.0 < other.0) test es up.0, rest)
    by rest false = rest

rises_joined : (xs ys : List Entry) (v : Entry) → Rises xs → AllByRecursion (λ x. x.0 < v.0) xs → Rises ys → AllByRecursion (λ y. v.0 < y.0) ys → Rises (xs ++ v ∷ ys)
rises_joined [] ys v up low vp high = (high, vp)
rises_joined (x ∷ xs) ys v up low vp high = (later xs up.0, rises_joined xs ys v up.1 low.1 vp high)
  where
    later : (more : List Entry) → AllByRecursion (λ other. x.0 < other.0) more → AllByRecursion (λ other. x.0 < other.0) (more ++ v ∷ ys)
    later [] all = let first : x.0 < v.0 = low.0 in (first, all_of (λ y. v.0 < y.0) (λ y. x.0 < y.0) (λ y lt. omega (arith, first, lt)) ys high)
    later (m ∷ more) all = (all.0, later more all.1)

pub rises_with : (link moment : ℕ) (links : List Entry) → Rises links → Rises (with_link link moment links)
rises_with link moment links up =
    rises_joined (filter (is_below link) links) (filter (is_above link) links) (link, moment) (rises_filtered (is_below link) links up)
    (passing (λ e. e.0 < link) (is_below link) (λ e is. ltb-true e.0 link is) links) (rises_filtered (is_above link) links up)
    (passing (λ e. link < e.0) (is_above link) (λ e is. ltb-true link e.0 is) links)

pub set_rises : {A E : Type 0} (result : Result A E) (link moment : ℕ) (old new : List Entry) → OnOk result (new ≡ with_link link moment old) → OnErr result (new ≡ old) → Rises old → Rises new
set_rises (Ok x) link moment old new ok err up = subst Rises (sym ok) (rises_with link moment old up)
set_rises (Err e) link moment old new ok err up = subst Rises (sym err) up

pub touch_rises : (there : Bool) (link moment : ℕ) (old new : List Entry) → (there ≡ true → new ≡ with_link link moment old) → (there ≡ false → new ≡ old) → Rises old → Rises new
touch_rises true link moment old new set same up = subst Rises (sym (set refl)) (rises_with link moment old up)
touch_rises false link moment old new set same up = subst Rises (sym (same refl)) up

-- ---- what rising links are

pub distinct_links : (links : List Entry) → Rises links → IsDistinct nat_eq (keys_of links)
unfolding IsDistinct
distinct_links [] up = tt
distinct_links (e ∷ es) up = (apart es up.0, distinct_links es up.1)
  where
    apart : (more : List Entry) → AllByRecursion (λ other. e.0 < other.0) more → AllByRecursion (λ other. nat_eq e.0 other ≡ false) (keys_of more)
    apart [] all = tt
    apart (m ∷ more) all = let first : e.0 < m.0 = all.0 in (ne_eqb e.0 m.0 (λ h. omega (arith, first, h)), apart more all.1)

sorted_links : (links : List Entry) → Rises links → IsStrictlySortedBy nat_cmp (keys_of links)
unfolding IsStrictlySortedBy
sorted_links [] up = tt
sorted_links (e ∷ es) up = (later es up.0, sorted_links es up.1)
  where
    later : (more : List Entry) → AllByRecursion (λ other. e.0 < other.0) more → AllByRecursion (λ other. nat_cmp e.0 other ≡ Less) (keys_of more)
    later [] all = tt
    later (m ∷ more) all = (sym (nat_cmp_is e.0 m.0 Less all.0), later more all.1)

pub rises_strictly : (links : List Entry) → Rises links → IsStrictlyIncreasing (keys_of links)
rises_strictly links up = IsStrictlyIncreasing-from_sorted (keys_of links) (sorted_links links up)

-- ---- what a look-up gives

lookup_joined : (test : ℕ → Bool) (xs ys : List Entry) → lookup test (xs ++ ys) ≡ option_or (lookup test xs) (lookup test ys)
lookup_joined test [] ys = refl
lookup_joined test (x ∷ xs) ys = by (test x.0) (lookup_joined test xs ys)
  where
    by : (b : Bool) → lookup test (xs ++ ys) ≡ option_or (lookup test xs) (lookup test ys) → cond b (Some x.1) (lookup test (xs ++ ys)) ≡ option_or (cond b (Some x.1) (lookup test xs)) (lookup test ys)
    by true rest = refl
    by false rest = rest

one_of_three : (low same high : Bool) (x y : Option ℕ) → (same ≡ true → low ≡ false) → (same ≡ true → high ≡ false) → (low ≡ true → high ≡ false) → (low ≡ false → same ≡ false → high ≡ true)
    → option_or (cond low x None) (cond same y (cond high x None)) ≡ cond same y x
one_of_three true true high x y a b c d = absurd (true≢false (a refl))
one_of_three true false high x y a b c d = rw (c refl) (elim x as (λ o. option_or o None ≡ o) [ None ↦ refl | Some n ↦ refl ])
one_of_three false true high x y a b c d = refl
one_of_three false false high x y a b c d = rw (d refl refl) refl

-- the link that is set has its new moment, and each other link what it had
pub lookup_with : (link moment q : ℕ) (links : List Entry) → lookup (nat_eq q) (with_link link moment links) ≡ cond (nat_eq q link) (Some moment) (lookup (nat_eq q) links)
lookup_with link moment q links =
    lookup_joined (nat_eq q) (filter (is_below link) links) ((link, moment) ∷ filter (is_above link) links)
    ∙ ap (λ o. option_or o (cond (nat_eq q link) (Some moment) (lookup (nat_eq q) (filter (is_above link) links)))) (lookup-filter-keys (nat_eq q) (λ k. nat_lt k link) (nat_lt q link) (λ k is. ap (λ n. nat_lt n link) (sym (eqb-true q k is))) links)
    ∙ ap (λ o. option_or (cond (nat_lt q link) (lookup (nat_eq q) links) None) (cond (nat_eq q link) (Some moment) o)) (lookup-filter-keys (nat_eq q) (λ k. nat_lt link k) (nat_lt link q) (λ k is. ap (λ n. nat_lt link n) (sym (eqb-true q k is))) links)
    ∙ one_of_three (nat_lt q link) (nat_eq q link) (nat_lt link q) (lookup (nat_eq q) links) (Some moment)
    (λ is. let h : q ≡ link = eqb-true q link is in le-ltb q link (omega (arith, h)))
    (λ is. let h : q ≡ link = eqb-true q link is in le-ltb link q (omega (arith, h)))
    (λ is. let h : q < link = ltb-true q link is in le-ltb link q (omega (arith, h)))
    (λ low apart. let h : link ≤ q = ltb-false q link low in let no : q ≢ link = eqb-false q link apart in lt-ltb link q (omega (arith, h, no)))

-- a link that is removed has none, and each other link what it had
pub lookup_without : (gone q : ℕ) (links : List Entry) → lookup (nat_eq q) (filter (is_another gone) links) ≡ cond (not (nat_eq gone q)) (lookup (nat_eq q) links) None
lookup_without gone q links =
    lookup-filter-keys (nat_eq q) (λ k. not (nat_eq gone k)) (not (nat_eq gone q)) (λ k is. ap (λ n. not (nat_eq gone n)) (sym (eqb-true q k is))) links

-- where a link isn't, nothing is removed
pub nothing_removed : (gone : ℕ) (links : List Entry) → lookup (nat_eq gone) links ≡ None → filter (is_another gone) links ≡ links
nothing_removed gone [] none = refl
nothing_removed gone (e ∷ es) none = by (nothing_removed gone es) (nat_eq gone e.0) none
  where
    by : (lookup (nat_eq gone) es ≡ None → filter (is_another gone) es ≡ es) → (b : Bool) → cond b (Some e.1) (lookup (nat_eq gone) es) ≡ None
        → cond (not b) (e ∷ filter (is_another gone) es) (filter (is_another gone) es) ≡ e ∷ es
    by rest true none = absurd (cc)
    by rest false none = ap (λ l. e ∷ l) (rest none)
