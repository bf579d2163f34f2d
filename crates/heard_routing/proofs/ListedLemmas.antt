-- The calls that a link has are listed, and no others.
use Rattle.std.proofs.Common.{◌≡◌, ℕ, Bool, true, false, cond, not, ◌&&◌, ◌||◌, ◌==◌, filter, length, List, [], ◌∷◌, ◌++◌, Option, Some, None, Result, Ok, Err, OnOk, OnErr, is_some, refl, sym, ap, ◌∙◌, subst, nat_eq, nat_lt, unwrap_or, if◌then◌else◌, arith, true≢false}
use Rattle.std.specs.Cmp.Lexicographic.{same_text}
use Rattle.std.specs.List.{AllByRecursion, IsDistinct, list_all, list_any}
use Rattle.std.specs.Map.{keys_of, lookup, set_value}
use Rattle.std.proofs.Math.Bool.{and-false}
use Rattle.std.proofs.lemmas.Bool.{and_parts, eqb-true, lt-ltb}
use Rattle.std.proofs.lemmas.Cmp.{nat_eq_equiv, nat_list_eq_equiv}
use Rattle.std.proofs.lemmas.List.Folds.{list_any-append}
use Rattle.std.proofs.lemmas.Map.{keys-set_value}
use Rattle.std.proofs.lemmas.Map.Keys.{IsDistinct-head, IsDistinct-tail}
use Rattle.std.proofs.lemmas.Map.Views.{any-filter_same}
use Rattle.indexmap.specs.IndexSet.{insert_key}
use Rattle.filter_eval.specs.Passes.{is_text}
use Rattle.station_table.proofs.EntryLemmas.{lookup_set}
use Rattle.heard_routing.specs.Entries.{Entry, Group, HasEachOnce, is_another, links_of, moment_at, with_moment}
use Rattle.heard_routing.specs.Heard.{has_links, is_recent_entry, is_recent_group, kept_links, recent_groups, without_links}
use Rattle.heard_routing.specs.LastHeard.{still}
use Rattle.heard_routing.specs.Listed.{Listing, ListsAll, ListsExactly, Unlists, UnlistsEach, calls_of, has_call, is_listed, still_listed, with_listing, without_each, without_one}
use Rattle.heard_routing.proofs.LinkLemmas.{lookup_without, nothing_removed}
use Rattle.heard_routing.proofs.LookLemmas.{links_written, moment_emptied, moment_recent, moment_set, moment_without}
use Rattle.heard_routing.proofs.TableLemmas.{written_there}

-- ---- one more call

text_itself : (text : List ℕ) → is_text text text ≡ true
text_itself text = nat_list_eq_equiv.refl text

any_inserted : (text call : List ℕ) (calls : List (List ℕ)) → list_any (is_text text) (insert_key is_text calls call) ≡ (is_text text call || list_any (is_text text) calls)
any_inserted text call calls = by (list_any (is_text call) calls) refl
  where
    there : (b : Bool) → is_text text call ≡ b → list_any (is_text call) calls ≡ true → list_any (is_text text) calls ≡ (b || list_any (is_text text) calls)
    there true same is = ap (λ t. list_any (is_text t) calls) (same_text text call (sym same)) ∙ is
    there false same is = refl

    turned : (a b : Bool) → (a || (b || false)) ≡ (b || a)
    turned true true = refl
    turned true false = refl
    turned false true = refl
    turned false false = refl

    by : (b : Bool) → list_any (is_text call) calls ≡ b → list_any (is_text text) (if b then calls else calls ++ call ∷ []) ≡ (is_text text call || list_any (is_text text) calls)
    by true is = there (is_text text call) refl is
    by false is = list_any-append (is_text text) calls (call ∷ []) ∙ turned (list_any (is_text text) calls) (is_text text call)

lists_one_more : (link other : ℕ) (call text : List ℕ) (listed : List Listing) → is_listed (with_listing link call listed) other text ≡ ((other == link && is_text text call) || is_listed listed other text)
lists_one_more link other call text listed =
    ap (λ o. list_any (is_text text) (unwrap_or o [])) (lookup_set nat_eq_equiv link other (insert_key is_text (calls_of link listed) call) listed) ∙ by (nat_eq other link) refl
  where
    by : (b : Bool) → nat_eq other link ≡ b
        → list_any (is_text text) (unwrap_or (cond b (Some (insert_key is_text (calls_of link listed) call)) (lookup (nat_eq other) listed)) []) ≡ ((b && is_text text call) || is_listed listed other text)
    by true is = any_inserted text call (calls_of link listed) ∙ ap (λ l. is_text text call || is_listed listed l text) (sym (eqb-true other link is))
    by false is = refl

has_one_more : (groups : List Group) (link other : ℕ) (call text : List ℕ) (moment : ℕ)
    → has_call (with_moment link call moment groups) other text ≡ ((other == link && is_text text call) || has_call groups other text)
has_one_more groups link other call text moment = ap (λ o. is_some o) (moment_set groups link other call text moment) ∙ by (other == link && is_text text call)
  where
    by : (b : Bool) → is_some (cond b (Some moment) (moment_at groups other text)) ≡ (b || has_call groups other text)
    by true = refl
    by false = refl

-- a link that has the call already
pub listed_there : {A E : Type 0} (result : Result A E) (listed : List Listing) (groups new : List Group) (link : ℕ) (call : List ℕ) (moment : ℕ) → has_call groups link call ≡ true
    → OnOk result (new ≡ with_moment link call moment groups) → OnErr result (new ≡ groups) → ListsExactly listed groups → ListsExactly listed new
listed_there (Ok x) listed groups new link call moment here ok err exact =
    subst (ListsExactly listed) (sym ok)
    (λ other text. exact other text ∙ sym (has_one_more groups link other call text moment ∙ by other text (other == link) (is_text text call) refl refl))
  where
    by : (other : ℕ) (text : List ℕ) (a b : Bool) → (other == link) ≡ a → is_text text call ≡ b → ((a && b) || has_call groups other text) ≡ has_call groups other text
    by other text true true is same = sym (ap (λ l. has_call groups l text) (eqb-true other link is) ∙ ap (has_call groups link) (same_text text call (sym same)) ∙ here)
    by other text true false is same = refl
    by other text false b is same = refl
listed_there (Err e) listed groups new link call moment here ok err exact = subst (ListsExactly listed) (sym err) exact

-- a link that is new there
pub listed_new : (listed after : List Listing) (groups new : List Group) (link : ℕ) (call : List ℕ) (moment : ℕ) → after ≡ with_listing link call listed → new ≡ with_moment link call moment groups
    → ListsExactly listed groups → ListsExactly after new
listed_new listed after groups new link call moment lists is exact =
    subst (λ l. ListsExactly l new) (sym lists)
    (subst (ListsExactly (with_listing link call listed)) (sym is)
    (λ other text.
    lists_one_more link other call text listed ∙ ap (λ b. (other == link && is_text text call) || b) (exact other text) ∙ sym (has_one_more groups link other call text moment)))

-- what was listed in vain is taken back
pub listed_back : (listed more after : List Listing) (groups new : List Group) (link : ℕ) (call : List ℕ) → has_call groups link call ≡ false → more ≡ with_listing link call listed
    → Unlists link call more after → new ≡ groups → ListsExactly listed groups → ListsExactly after new
listed_back listed more after groups new link call gone lists taken is exact =
    subst (ListsExactly after) (sym is)
    (λ other text.
    taken other text
    ∙ ap (λ l. not (other == link && is_text call text) && is_listed l other text) lists
    ∙ ap (λ b. not (other == link && is_text call text) && b) (lists_one_more link other call text listed ∙ ap (λ b. (other == link && is_text text call) || b) (exact other text))
    ∙ by other text (other == link) (is_text text call) (is_text call text) refl refl (nat_list_eq_equiv.symm call text))
  where
    by : (other : ℕ) (text : List ℕ) (a b d : Bool) → (other == link) ≡ a → is_text text call ≡ b → d ≡ b → (not (a && d) && ((a && b) || has_call groups other text)) ≡ has_call groups other text
    by other text true true true is same turned = sym (ap (λ l. has_call groups l text) (eqb-true other link is) ∙ ap (has_call groups link) (same_text text call (sym same)) ∙ gone)
    by other text true true false is same turned = absurd (true≢false (sym turned))
    by other text true false true is same turned = absurd (true≢false turned)
    by other text true false false is same turned = refl
    by other text false b d is same turned = refl

-- ---- what goes from the lists

never : (a : Bool) → (not (a && true) && a) ≡ false
never true = refl
never false = refl

pub unlisted : (link : ℕ) (call : List ℕ) (listed after : List Listing) (old new : List (List ℕ)) → lookup (nat_eq link) listed ≡ Some old → after ≡ set_value (nat_eq link) listed new
    → ((text : List ℕ) → list_any (is_text text) new ≡ (not (is_text call text) && list_any (is_text text) old)) → Unlists link call listed after
unlisted link call listed after old new there is without other text =
    ap (λ l. is_listed l other text) (is ∙ written_there nat_eq link listed old new there)
    ∙ ap (λ o. list_any (is_text text) (unwrap_or o [])) (lookup_set nat_eq_equiv link other new listed)
    ∙ by (nat_eq other link) refl
  where
    by : (b : Bool) → nat_eq other link ≡ b → list_any (is_text text) (unwrap_or (cond b (Some new) (lookup (nat_eq other) listed)) []) ≡ (not (b && is_text call text) && is_listed listed other text)
    by true is =
        without text ∙ ap (λ o. not (is_text call text) && list_any (is_text text) (unwrap_or o [])) (sym there)
        ∙ ap (λ l. not (is_text call text) && is_listed listed l text) (sym (eqb-true other link is))
    by false is = refl

pub listed_cleared : (call : List ℕ) (listed after : List Listing) (groups new : List Group) → UnlistsEach (links_of call groups) call listed after → new ≡ without_links call groups
    → ListsExactly listed groups → ListsExactly after new
listed_cleared call listed after groups new taken is exact =
    subst (ListsExactly after) (sym is)
    (λ other text.
    taken other text
    ∙ ap (λ b. not (has_call groups other call && is_text call text) && b) (exact other text)
    ∙ by other text (is_text call text) refl
    ∙ sym (ap (λ o. is_some o) (moment_emptied groups call text other)))
  where
    by : (other : ℕ) (text : List ℕ) (b : Bool) → is_text call text ≡ b → (not (has_call groups other call && b) && has_call groups other text) ≡ is_some (cond (not b) (moment_at groups other text) None)
    by other text true is = ap (λ t. not (has_call groups other call && true) && has_call groups other t) (sym (same_text call text (sym is))) ∙ never (has_call groups other call)
    by other text false is = ap (λ b. not b && has_call groups other text) (and-false (has_call groups other call))

if_still : (age now : ℕ) (o : Option ℕ) → is_some (still age now o) ≡ true → is_some o ≡ true
if_still age now None has = has
if_still age now (Some moment) has = refl

pub had_recent : (age now : ℕ) (groups : List Group) (link : ℕ) (call : List ℕ) → HasEachOnce groups → has_call (recent_groups age now groups) link call ≡ true → has_call groups link call ≡ true
had_recent age now groups link call once has =
    if_still age now (moment_at groups link call) (sym (ap (λ o. is_some o) (moment_recent age now groups link call once)) ∙ has)

-- ---- what an expiry leaves in the lists

not_empty : (test : List ℕ → Bool) (calls : List (List ℕ)) → list_any test calls ≡ true → nat_lt 0 (length calls) ≡ true
not_empty test [] among = absurd (true≢false (sym among))
not_empty test (call ∷ calls) among = lt-ltb 0 (length (call ∷ calls)) (omega arith)

still_among : (groups : List Group) (link : ℕ) (call : List ℕ) (calls : List (List ℕ)) → has_call groups link call ≡ true → list_any (is_text call) calls ≡ true
    → list_any (is_text call) (filter (has_call groups link) calls) ≡ true
still_among groups link call calls has among =
    any-filter_same (is_text call) (has_call groups link) true (λ text same. ap (has_call groups link) (sym (same_text call text (sym same))) ∙ has) calls ∙ among

still_lists : (groups : List Group) (listed : List Listing) → ListsAll listed groups → ListsAll (still_listed groups listed) groups
still_lists groups listed all link call has = stays listed (all link call has)
  where
    stays : (some : List Listing) → is_listed some link call ≡ true → is_listed (still_listed groups some) link call ≡ true
    stays [] among = among
    stays (one ∷ more) among = by (nat_eq link one.0) refl (stays more) among
      where
        had : List (List ℕ)
        had = filter (has_call groups one.0) one.1

        by : (b : Bool) → nat_eq link one.0 ≡ b → (is_listed more link call ≡ true → is_listed (still_listed groups more) link call ≡ true)
            → list_any (is_text call) (unwrap_or (cond b (Some one.1) (lookup (nat_eq link) more)) []) ≡ true
            → is_listed (cond (nat_lt 0 (length had)) ((one.0, had) ∷ still_listed groups more) (still_listed groups more)) link call ≡ true
        by true is rest among =
            let left : list_any (is_text call) had ≡ true = subst (λ l. list_any (is_text call) (filter (has_call groups l) one.1) ≡ true) (eqb-true link one.0 is) (still_among groups link call one.1 has among) in
            rw (not_empty (is_text call) had left, is) left
        by false is rest among = drops (nat_lt 0 (length had))
          where
            drops : (b : Bool) → is_listed (cond b ((one.0, had) ∷ still_listed groups more) (still_listed groups more)) link call ≡ true
            drops true = rw is (rest among)
            drops false = rest among

only_had : (groups : List Group) (link : ℕ) (call : List ℕ) (calls : List (List ℕ)) → list_any (is_text call) (filter (has_call groups link) calls) ≡ true → has_call groups link call ≡ true
only_had groups link call [] among = absurd (true≢false (sym among))
only_had groups link call (one ∷ more) among = by (has_call groups link one) refl (only_had groups link call more) among
  where
    left : List (List ℕ)
    left = filter (has_call groups link) more

    by : (b : Bool) → has_call groups link one ≡ b → (list_any (is_text call) left ≡ true → has_call groups link call ≡ true) → list_any (is_text call) (cond b (one ∷ left) left) ≡ true → has_call groups link call ≡ true
    by true has rest among = here (is_text call one) refl among
      where
        here : (b : Bool) → is_text call one ≡ b → (b || list_any (is_text call) left) ≡ true → has_call groups link call ≡ true
        here true same among = ap (has_call groups link) (same_text call one (sym same)) ∙ has
        here false same among = rest among
    by false has rest among = rest among

still_only : (groups : List Group) (listed : List Listing) (link : ℕ) (call : List ℕ) → is_listed (still_listed groups listed) link call ≡ true → has_call groups link call ≡ true
still_only groups [] link call among = absurd (true≢false (sym among))
still_only groups (one ∷ more) link call among = by (nat_lt 0 (length had)) (still_only groups more link call) among
  where
    had : List (List ℕ)
    had = filter (has_call groups one.0) one.1

    left : List Listing
    left = still_listed groups more

    by : (b : Bool) → (is_listed left link call ≡ true → has_call groups link call ≡ true) → is_listed (cond b ((one.0, had) ∷ left) left) link call ≡ true → has_call groups link call ≡ true
    by true rest among = here (nat_eq link one.0) refl among
      where
        here : (b : Bool) → nat_eq link one.0 ≡ b → list_any (is_text call) (unwrap_or (cond b (Some had) (lookup (nat_eq link) left)) []) ≡ true → has_call groups link call ≡ true
        here true is among = only_had groups link call one.1 (subst (λ l. list_any (is_text call) (filter (has_call groups l) one.1) ≡ true) (sym (eqb-true link one.0 is)) among)
        here false is among = rest among
    by false rest among = rest among

-- where nothing is too old, nothing goes
pub nothing_goes : (age now : ℕ) (groups : List Group) → list_all (is_recent_group age now) groups ≡ true → recent_groups age now groups ≡ groups
nothing_goes age now [] all = refl
nothing_goes age now (group ∷ groups) all =
    let parts : (is_recent_group age now group ≡ true) × (list_all (is_recent_group age now) groups ≡ true) = and_parts _ _ all in
    let here : (has_links group ≡ true) × (list_all (is_recent_entry age now) group.1 ≡ true) = and_parts _ _ parts.0 in
    let same : filter (is_recent_entry age now) group.1 ≡ group.1 = each group.1 here.1 in
    rw same (rw here.0 (ap (λ l. group ∷ l) (nothing_goes age now groups parts.1)))
  where
    each : (links : List Entry) → list_all (is_recent_entry age now) links ≡ true → filter (is_recent_entry age now) links ≡ links
    each [] h = refl
    each (link ∷ links) h =
        let parts : (is_recent_entry age now link ≡ true) × (list_all (is_recent_entry age now) links ≡ true) = and_parts _ _ h in
        rw parts.0 (ap (λ l. link ∷ l) (each links parts.1))

same_bool : (a b : Bool) → (a ≡ true → b ≡ true) → (b ≡ true → a ≡ true) → a ≡ b
same_bool true b to from = sym (to refl)
same_bool false true to from = from refl
same_bool false false to from = refl

pub listed_still : (groups : List Group) (listed : List Listing) → ListsAll listed groups → ListsExactly (still_listed groups listed) groups
listed_still groups listed all link call =
    same_bool (is_listed (still_listed groups listed) link call) (has_call groups link call) (still_only groups listed link call) (still_lists groups listed all link call)

-- ---- a link that goes

again_without : (link : ℕ) (links : List Entry) → filter (is_another link) (filter (is_another link) links) ≡ filter (is_another link) links
again_without link [] = refl
again_without link (e ∷ es) = by (nat_eq link e.0) refl (again_without link es)
  where
    by : (b : Bool) → nat_eq link e.0 ≡ b → filter (is_another link) (filter (is_another link) es) ≡ filter (is_another link) es
        → filter (is_another link) (cond (not b) (e ∷ filter (is_another link) es) (filter (is_another link) es)) ≡ cond (not b) (e ∷ filter (is_another link) es) (filter (is_another link) es)
    by true is rest = rest
    by false is rest = rw is (ap (λ l. e ∷ l) rest)

-- what is taken from one call is what is taken from all
same_without : (link : ℕ) (call : List ℕ) (groups : List Group) → kept_links (is_another link) (without_one link call groups) ≡ kept_links (is_another link) groups
same_without link call groups = writes groups (links_of call groups) refl
  where
    keep : List Entry → List Entry
    keep links = filter (is_another link) links

    writes : (some : List Group) (links : List Entry) → links_of call some ≡ links → kept_links (is_another link) (set_value (is_text call) some (keep links)) ≡ kept_links (is_another link) some
    writes [] links is = refl
    writes (group ∷ more) links is = by (is_text call group.0) (writes more links) is
      where
        by : (b : Bool) → (links_of call more ≡ links → kept_links (is_another link) (set_value (is_text call) more (keep links)) ≡ kept_links (is_another link) more)
            → unwrap_or (cond b (Some group.1) (lookup (is_text call) more)) [] ≡ links
            → kept_links (is_another link) (cond b ((group.0, keep links) ∷ more) (group ∷ set_value (is_text call) more (keep links))) ≡ (group.0, keep group.1) ∷ kept_links (is_another link) more
        by true rest is = ap (λ l. (group.0, l) ∷ kept_links (is_another link) more) (again_without link links ∙ ap keep (sym is))
        by false rest is = ap (λ l. (group.0, keep group.1) ∷ l) (rest is)

moment_one : (groups : List Group) (link : ℕ) (call text : List ℕ) → has_call (without_one link call groups) link text ≡ (not (is_text call text) && has_call groups link text)
moment_one groups link call text =
    ap (λ links. is_some (lookup (nat_eq link) links)) (links_written call text (filter (is_another link) (links_of call groups)) groups (λ none. ap (λ o. filter (is_another link) (unwrap_or o [])) none)) ∙ by (is_text call text) refl
  where
    by : (b : Bool) → is_text call text ≡ b → is_some (lookup (nat_eq link) (cond b (filter (is_another link) (links_of call groups)) (links_of text groups))) ≡ (not b && has_call groups link text)
    by true is =
        ap (λ o. is_some o) (lookup_without link link (links_of call groups))
        ∙ ap (λ b. is_some (cond (not b) (lookup (nat_eq link) (links_of call groups)) None)) (nat_eq_equiv.refl link)
    by false is = refl

-- where no call has the link, nothing goes
none_without : (link : ℕ) (groups : List Group) → IsDistinct is_text (keys_of groups) → ((call : List ℕ) → has_call groups link call ≡ false) → kept_links (is_another link) groups ≡ groups
none_without link [] apart none = refl
none_without link (group ∷ groups) apart none =
    ap (λ links. (group.0, links) ∷ kept_links (is_another link) groups) (nothing_removed link group.1 (is_none (lookup (nat_eq link) group.1) first))
    ∙ ap (λ l. group ∷ l) (none_without link groups (IsDistinct-tail is_text group.0 (keys_of groups) apart) later)
  where
    is_none : (o : Option ℕ) → is_some o ≡ false → o ≡ None
    is_none None is = refl
    is_none (Some x) is = absurd (true≢false is)

    first : is_some (lookup (nat_eq link) group.1) ≡ false
    first = sym (ap (λ b. is_some (lookup (nat_eq link) (unwrap_or (cond b (Some group.1) (lookup (is_text group.0) groups)) []))) (text_itself group.0)) ∙ none group.0

    nowhere : (some : List Group) → AllByRecursion (λ other. is_text group.0 other ≡ false) (keys_of some) → lookup (is_text group.0) some ≡ None
    nowhere [] all = refl
    nowhere (one ∷ more) all = rw all.0 (nowhere more all.1)

    later : (call : List ℕ) → has_call groups link call ≡ false
    later call = by (is_text call group.0) refl (none call)
      where
        by : (b : Bool) → is_text call group.0 ≡ b → is_some (lookup (nat_eq link) (unwrap_or (cond b (Some group.1) (lookup (is_text call) groups)) [])) ≡ false → has_call groups link call ≡ false
        by true is has =
            let same : group.0 ≡ call = sym (same_text call group.0 (sym is)) in
            subst (λ c. has_call groups link c ≡ false) same
            (ap (λ o. is_some (lookup (nat_eq link) (unwrap_or o []))) (nowhere groups (IsDistinct-head is_text group.0 (keys_of groups) apart)))
        by false is has = has

-- where all calls that have the link are among some, the link goes from all as it goes from each of these
pub all_without : (link : ℕ) (calls : List (List ℕ)) (groups : List Group) → HasEachOnce groups → ((call : List ℕ) → has_call groups link call ≡ true → list_any (is_text call) calls ≡ true)
    → without_each link calls groups ≡ kept_links (is_another link) groups
all_without link calls groups once among = by calls groups once.calls among
  where
    is_false : (b : Bool) → (b ≡ true → false ≡ true) → b ≡ false
    is_false true h = sym (h refl)
    is_false false h = refl

    by : (some : List (List ℕ)) (left : List Group) → IsDistinct is_text (keys_of left) → ((call : List ℕ) → has_call left link call ≡ true → list_any (is_text call) some ≡ true)
        → without_each link some left ≡ kept_links (is_another link) left
    by [] left apart among = sym (none_without link left apart (λ call. is_false (has_call left link call) (among call)))
    by (one ∷ more) left apart among =
        by more (without_one link one left) (subst (λ keys. IsDistinct is_text keys) (sym (keys-set_value (is_text one) left (filter (is_another link) (links_of one left)))) apart)
        (λ call has. others call (is_text one call) refl (sym (moment_one left link one call) ∙ has))
        ∙ same_without link one left
      where
        others : (call : List ℕ) (b : Bool) → is_text one call ≡ b → (not (is_text one call) && has_call left link call) ≡ true → list_any (is_text call) more ≡ true
        others call true is has = absurd (true≢false (sym (sym (ap (λ b. not b && has_call left link call) is) ∙ has)))
        others call false is has =
            let had : has_call left link call ≡ true = sym (ap (λ b. not b && has_call left link call) is) ∙ has in
            let there : (is_text call one || list_any (is_text call) more) ≡ true = among call had in
            sym (ap (λ b. b || list_any (is_text call) more) (nat_list_eq_equiv.symm call one ∙ is)) ∙ there

pub listed_forgotten : (gone : ℕ) (before after : List Listing) (groups : List Group) → ((link : ℕ) → lookup (nat_eq link) after ≡ cond (nat_eq gone link) None (lookup (nat_eq link) before))
    → ListsExactly before groups → ListsExactly after (kept_links (is_another gone) groups)
listed_forgotten gone before after groups taken exact link call =
    ap (λ o. list_any (is_text call) (unwrap_or o [])) (taken link) ∙ by (nat_eq gone link) (exact link call) ∙ sym (ap (λ o. is_some o) (moment_without groups gone link call))
  where
    by : (b : Bool) → is_listed before link call ≡ has_call groups link call
        → list_any (is_text call) (unwrap_or (cond b None (lookup (nat_eq link) before)) []) ≡ is_some (cond (not b) (moment_at groups link call) None)
    by true is = refl
    by false is = is
