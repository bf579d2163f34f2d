-- Lists of links and their numbers: how often a link stands there, and lists that rise.
use Rattle.std.proofs.Common.{◌≡◌, ℕ, zero, suc, ◌+◌, ◌-◌, ◌≤◌, ◌<◌, ◌==◌, ◌||◌, Bool, true, false, not, List, [], ◌∷◌, ◌++◌, length, filter, map, take, cond, if◌then◌else◌, refl, sym, ap, ◌∙◌, subst, arith, eq-eqb, Some, None, ◌⊎◌, inl, inr}
use Rattle.std.specs.List.{AllByRecursion as Each, find}
use Rattle.std.proofs.lemmas.Bool.{cases_Bool, eqb-true, true≢false}
use Rattle.std.proofs.lemmas.Option.{none-some}
use Rattle.aprs_history.specs.Trace.{Rises}
use Rattle.aprs_history.proofs.NumberLemmas.{rises_lower, rises_within}
use Rattle.http_submit.specs.Pools.{WaitingSeen, grown, heard, is_link, owed_late}
use Rattle.http_submit.specs.declared.pool.Owed.{Owed}

-- so many bytes, and as many of those that follow as there is room for
pub take_joined : (n : ℕ) (xs ys : List ℕ) → take n xs ++ take (n - length (take n xs)) ys ≡ take n (xs ++ ys)
take_joined zero xs ys = refl
take_joined (suc n) [] ys = let whole : suc n - 0 ≡ suc n = omega arith in ap (λ m. take m ys) whole
take_joined (suc n) (x ∷ xs) ys =
    let less : suc n - length (x ∷ take n xs) ≡ n - length (take n xs) = omega arith in
    ap (λ m. x ∷ (take n xs ++ take m ys)) less ∙ ap (λ zs. x ∷ zs) (take_joined n xs ys)

pub all_filtered : (P : WaitingSeen → Type 0) (p : WaitingSeen → Bool) (ws : List WaitingSeen) → Each P ws → Each P (filter p ws)
all_filtered P p [] all = tt
all_filtered P p (w ∷ ws) all = of (p w) (all_filtered P p ws all.1)
  where
    of : (b : Bool) → Each P (filter p ws) → Each P (cond b (w ∷ filter p ws) (filter p ws))
    of true rest = (all.0, rest)
    of false rest = rest

pub all_pushed : (P : WaitingSeen → Type 0) (ws : List WaitingSeen) (w : WaitingSeen) → Each P ws → P w → Each P (ws ++ w ∷ [])
all_pushed P [] w all one = (one, tt)
all_pushed P (first ∷ ws) w all one = (all.0, all_pushed P ws w all.1 one)

-- ---- how many of these a link is

abbrev pub one : Bool → ℕ
one b = if b then 1 else 0

abbrev pub listed : ℕ → List WaitingSeen → ℕ
listed k [] = 0
listed k (w ∷ ws) = one (w.link == k) + listed k ws

abbrev pub owed_to : ℕ → List Owed → ℕ
owed_to k [] = 0
owed_to k (owed ∷ more) = one (owed.link == k) + owed_to k more

pub listed_pushed : (k : ℕ) (ws : List WaitingSeen) (w : WaitingSeen) → listed k (ws ++ w ∷ []) ≡ listed k ws + one (w.link == k)
listed_pushed k [] w = omega arith
listed_pushed k (first ∷ ws) w = let later = listed_pushed k ws w in omega arith

pub listed_late : (k : ℕ) (p : WaitingSeen → Bool) (ws : List WaitingSeen) → listed k (filter (λ w. not (p w)) ws) + owed_to k (map owed_late (filter p ws)) ≡ listed k ws
listed_late k p [] = refl
listed_late k p (w ∷ ws) = of (p w) (listed_late k p ws)
  where
    of : (b : Bool) → listed k (filter (λ w. not (p w)) ws) + owed_to k (map owed_late (filter p ws)) ≡ listed k ws
        → listed k (cond (not b) (w ∷ filter (λ w. not (p w)) ws) (filter (λ w. not (p w)) ws)) + owed_to k (map owed_late (cond b (w ∷ filter p ws) (filter p ws))) ≡ one (w.link == k) + listed k ws
    of true later = omega arith
    of false later = omega arith

pub listed_but : (k link : ℕ) → (link == k) ≡ false → (ws : List WaitingSeen) → listed k (filter (λ w. not (is_link link w)) ws) ≡ listed k ws
listed_but k link other [] = refl
listed_but k link other (w ∷ ws) = of (is_link link w) refl (listed_but k link other ws)
  where
    of : (b : Bool) → is_link link w ≡ b → listed k (filter (λ w. not (is_link link w)) ws) ≡ listed k ws
        → listed k (cond (not b) (w ∷ filter (λ w. not (is_link link w)) ws) (filter (λ w. not (is_link link w)) ws)) ≡ one (w.link == k) + listed k ws
    of true same later = let none : one (w.link == k) ≡ 0 = ap one (ap (λ n. n == k) (eqb-true w.link link same) ∙ other) in omega arith
    of false differs later = ap (λ n. one (w.link == k) + n) later

pub listed_none : (link : ℕ) (ws : List WaitingSeen) → listed link (filter (λ w. not (is_link link w)) ws) ≡ 0
listed_none link [] = refl
listed_none link (w ∷ ws) = of (is_link link w) refl (listed_none link ws)
  where
    of : (b : Bool) → is_link link w ≡ b → listed link (filter (λ w. not (is_link link w)) ws) ≡ 0
        → listed link (cond (not b) (w ∷ filter (λ w. not (is_link link w)) ws) (filter (λ w. not (is_link link w)) ws)) ≡ 0
    of true same later = later
    of false differs later = let none : one (w.link == link) ≡ 0 = ap one differs in omega arith

pub listed_grown : (k link : ℕ) (bytes : List ℕ) (ws : List WaitingSeen) → listed k (map (grown link bytes) ws) ≡ listed k ws
listed_grown k link bytes [] = refl
listed_grown k link bytes (w ∷ ws) = of (is_link link w) (listed_grown k link bytes ws)
  where
    of : (b : Bool) → listed k (map (grown link bytes) ws) ≡ listed k ws → one ((if b then record w { bytes = heard w bytes } else w).link == k) + listed k (map (grown link bytes) ws) ≡ one (w.link == k) + listed k ws
    of true later = ap (λ n. one (w.link == k) + n) later
    of false later = ap (λ n. one (w.link == k) + n) later

pub listed_found : (link : ℕ) (ws : List WaitingSeen) (found : WaitingSeen) → find (is_link link) ws ≡ Some found → 0 < listed link ws
listed_found link [] found is = absurd (none-some _ is)
listed_found link (w ∷ ws) found is = of (is_link link w) is (listed_found link ws found)
  where
    of : (b : Bool) → cond b (Some w) (find (is_link link) ws) ≡ Some found → (find (is_link link) ws ≡ Some found → 0 < listed link ws) → 0 < one b + listed link ws
    of true is later = omega arith
    of false is later = let more = later is in omega arith

pub listed_missing : (link : ℕ) (ws : List WaitingSeen) → find (is_link link) ws ≡ None → listed link ws ≡ 0
listed_missing link [] none = refl
listed_missing link (w ∷ ws) none = of (is_link link w) none (listed_missing link ws)
  where
    of : (b : Bool) → cond b (Some w) (find (is_link link) ws) ≡ None → (find (is_link link) ws ≡ None → listed link ws ≡ 0) → one b + listed link ws ≡ 0
    of true none later = absurd (none-some _ (sym none))
    of false none later = let zero_listed = later none in omega arith

pub waiting_if : (b : Bool) → 0 < one b → b ≡ true
waiting_if true some = refl
waiting_if false some = absurd (omega arith)

pub waiting_unless : (b : Bool) → one b ≡ 0 → b ≡ false
waiting_unless true none = absurd (omega arith)
waiting_unless false none = refl

-- ---- the numbers of links

abbrev pub times : ℕ → List ℕ → ℕ
times k [] = 0
times k (n ∷ ns) = one (n == k) + times k ns

pub times_pushed : (k n : ℕ) (ns : List ℕ) → times k (ns ++ n ∷ []) ≡ times k ns + one (n == k)
times_pushed k n [] = omega arith
times_pushed k n (first ∷ ns) = let later = times_pushed k n ns in omega arith

pub times_first : (p : ℕ → Bool) (k n : ℕ) (ns : List ℕ) → times k (filter p ns) ≡ (if p k then times k ns else 0)
    → times k (cond (p n) (n ∷ filter p ns) (filter p ns)) ≡ (if p k then one (n == k) + times k ns else 0)
times_first p k n ns later = of (cases_Bool (n == k))
  where
    later_is : (b : Bool) → p k ≡ b → times k (filter p ns) ≡ (if b then times k ns else 0)
    later_is b is = later ∙ ap (λ b. if b then times k ns else 0) is

    here : (b : Bool) → p k ≡ b → times k (cond b (n ∷ filter p ns) (filter p ns)) ≡ (if b then one (n == k) + times k ns else 0)
    here true is = ap (λ m. one (n == k) + m) (later_is true is)
    here false is = later_is false is

    elsewhere : (b c : Bool) → p k ≡ c → (n == k) ≡ false → times k (cond b (n ∷ filter p ns) (filter p ns)) ≡ (if c then one (n == k) + times k ns else 0)
    elsewhere true true is other = ap (λ m. one (n == k) + m) (later_is true is)
    elsewhere true false is other = let none = later_is false is in let zero_here : one (n == k) ≡ 0 = ap one other in omega arith
    elsewhere false true is other = let same = later_is true is in let zero_here : one (n == k) ≡ 0 = ap one other in omega arith
    elsewhere false false is other = later_is false is

    of : ((n == k) ≡ true) ⊎ ((n == k) ≡ false) → times k (cond (p n) (n ∷ filter p ns) (filter p ns)) ≡ (if p k then one (n == k) + times k ns else 0)
    of (inl same) = subst (λ c. times k (cond c (n ∷ filter p ns) (filter p ns)) ≡ (if p k then one (n == k) + times k ns else 0)) (ap p (sym (eqb-true n k same))) (here (p k) refl)
    of (inr other) = elsewhere (p n) (p k) refl other

pub times_filtered : (p : ℕ → Bool) (k : ℕ) (ns : List ℕ) → times k (filter p ns) ≡ (if p k then times k ns else 0)
times_filtered p k [] = of (p k)
  where
    of : (b : Bool) → times k [] ≡ (if b then times k [] else 0)
    of true = refl
    of false = refl
times_filtered p k (n ∷ ns) = times_first p k n ns (times_filtered p k ns)

-- a list without the first of these
abbrev pub erased : ℕ → List ℕ → List ℕ
erased n [] = []
erased n (m ∷ ms) = if m == n then ms else m ∷ erased n ms

pub times_erased : (n k : ℕ) (ms : List ℕ) → 0 < times n ms → times k (erased n ms) + one (n == k) ≡ times k ms
times_erased n k [] some = absurd (omega arith)
times_erased n k (m ∷ ms) some = of (m == n) refl some (times_erased n k ms)
  where
    of : (b : Bool) → (m == n) ≡ b → 0 < one b + times n ms → (0 < times n ms → times k (erased n ms) + one (n == k) ≡ times k ms) → times k (if b then ms else m ∷ erased n ms) + one (n == k) ≡ one (m == k) + times k ms
    of true same some later = let is : one (n == k) ≡ one (m == k) = ap (λ x. one (x == k)) (sym (eqb-true m n same)) in omega arith
    of false other some later = let rest = later (omega arith) in omega arith

pub length_erased : (n : ℕ) (ms : List ℕ) → 0 < times n ms → length (erased n ms) + 1 ≡ length ms
length_erased n [] some = absurd (omega arith)
length_erased n (m ∷ ms) some = of (m == n) some (length_erased n ms)
  where
    of : (b : Bool) → 0 < one b + times n ms → (0 < times n ms → length (erased n ms) + 1 ≡ length ms) → length (if b then ms else m ∷ erased n ms) + 1 ≡ suc (length ms)
    of true some later = omega arith
    of false some later = let rest = later (omega arith) in omega arith

-- lists that have each number as many times are as long
pub same_length : (ns ms : List ℕ) → ((k : ℕ) → times k ns ≡ times k ms) → length ns ≡ length ms
same_length [] [] same = refl
same_length [] (m ∷ ms) same = let none = same m in let here : one (m == m) ≡ 1 = ap one (eq-eqb m m refl) in absurd (omega arith)
same_length (n ∷ ns) ms same =
    let here : one (n == n) ≡ 1 = ap one (eq-eqb n n refl) in
    let first = same n in
    let some : 0 < times n ms = omega arith in
    let rest = same_length ns (erased n ms) (λ k. let left = times_erased n k ms some in let all = same k in omega arith) in
    let long = length_erased n ms some in
    omega arith

abbrev pub link_of : WaitingSeen → ℕ
link_of w = w.link

pub listed_times : (k : ℕ) (ws : List WaitingSeen) → times k (map link_of ws) ≡ listed k ws
listed_times k [] = refl
listed_times k (w ∷ ws) = ap (λ n. one (w.link == k) + n) (listed_times k ws)

pub length_links : (ws : List WaitingSeen) → length (map link_of ws) ≡ length ws
length_links [] = refl
length_links (w ∷ ws) = ap suc (length_links ws)

-- ---- the lowest numbers come first

abbrev pub owed_link : Owed → ℕ
owed_link owed = owed.link

pub late_links : (ws : List WaitingSeen) → map owed_link (map owed_late ws) ≡ map link_of ws
late_links [] = refl
late_links (w ∷ ws) = ap (λ ns. w.link ∷ ns) (late_links ws)

pub grown_links : (link : ℕ) (bytes : List ℕ) (ws : List WaitingSeen) → map link_of (map (grown link bytes) ws) ≡ map link_of ws
grown_links link bytes [] = refl
grown_links link bytes (w ∷ ws) = of (is_link link w) (grown_links link bytes ws)
  where
    of : (b : Bool) → map link_of (map (grown link bytes) ws) ≡ map link_of ws → (if b then record w { bytes = heard w bytes } else w).link ∷ map link_of (map (grown link bytes) ws) ≡ w.link ∷ map link_of ws
    of true later = ap (λ ns. w.link ∷ ns) later
    of false later = ap (λ ns. w.link ∷ ns) later

pub pushed_links : (ws : List WaitingSeen) (w : WaitingSeen) → map link_of (ws ++ w ∷ []) ≡ map link_of ws ++ w.link ∷ []
pushed_links [] w = refl
pushed_links (first ∷ ws) w = ap (λ ns. first.link ∷ ns) (pushed_links ws w)

pub rises_kept : (low high : ℕ) (p : WaitingSeen → Bool) (ws : List WaitingSeen) → Rises low (map link_of ws) high → Rises low (map link_of (filter p ws)) high
rises_kept low high p [] rises = rises
rises_kept low high p (w ∷ ws) rises = of (p w) (rises_kept w.link high p ws rises.1)
  where
    of : (b : Bool) → Rises w.link (map link_of (filter p ws)) high → Rises low (map link_of (cond b (w ∷ filter p ws) (filter p ws))) high
    of true later = (rises.0, later)
    of false later = let above = rises.0 in rises_lower low w.link high (map link_of (filter p ws)) (omega arith) later

pub found_within : (low high link : ℕ) (ws : List WaitingSeen) (found : WaitingSeen) → find (is_link link) ws ≡ Some found → Rises low (map link_of ws) high → (low < link) × (link ≤ high)
found_within low high link [] found is rises = absurd (none-some _ is)
found_within low high link (w ∷ ws) found is rises = of (is_link link w) refl is (λ later. found_within w.link high link ws found later rises.1)
  where
    of : (b : Bool) → is_link link w ≡ b → cond b (Some w) (find (is_link link) ws) ≡ Some found → (find (is_link link) ws ≡ Some found → (w.link < link) × (link ≤ high)) → (low < link) × (link ≤ high)
    of true same is later = let here : w.link ≡ link = eqb-true w.link link same in let above = rises.0 in let within = rises_within w.link high (map link_of ws) rises.1 in (omega arith, omega arith)
    of false other is later = let rest = later is in let above = rises.0 in let more = rest.0 in let most = rest.1 in (omega arith, omega arith)

pub one_either : (a b : Bool) → (a ≡ true → b ≡ false) → one (a || b) ≡ one a + one b
one_either true true apart = absurd (true≢false (apart refl))
one_either true false apart = omega arith
one_either false true apart = omega arith
one_either false false apart = omega arith
