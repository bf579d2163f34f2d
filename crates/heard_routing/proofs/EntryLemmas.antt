-- Calls with the links that have them: none stands twice, and the links of each rise.
use Rattle.std.proofs.Common.{◌≡◌, ℕ, Bool, true, false, cond, filter, List, [], ◌∷◌, Option, None, Some, is_some, Result, Ok, Err, OnOk, OnErr, unwrap_or, refl, sym, ap, ◌∙◌, subst, nat_eq}
use Rattle.std.specs.List.{AllByRecursion, IsDistinct}
use Rattle.std.specs.Map.{lookup, set_value}
use Rattle.std.proofs.lemmas.Cmp.{nat_eq_equiv, nat_list_eq_equiv}
use Rattle.std.proofs.lemmas.Map.{keys-set_value}
use Rattle.std.proofs.lemmas.Map.Entries.{lookup-filter-values, option_filter}
use Rattle.std.proofs.lemmas.Map.Made.{IsDistinct-keys_filter, is_some-lookup, keys_of-map_values}
use Rattle.std.proofs.lemmas.Map.Steps.{set_value_same}
use Rattle.indexmap.specs.IndexMap.{insert_entry}
use Rattle.filter_eval.specs.Passes.{is_some_and, is_text}
use Rattle.station_table.proofs.EntryLemmas.{distinct_set}
use Rattle.heard_routing.specs.Entries.{Entry, Group, HasEachOnce, Rises, links_of, with_link, with_moment}
use Rattle.heard_routing.specs.Heard.{IsRisingListOf, has_links, has_recent, is_recent, is_recent_entry, kept_links, links_with, recent_groups, without_links}
use Rattle.heard_routing.proofs.LinkLemmas.{all_filtered, distinct_links, rises_filtered, rises_strictly, rises_with}
use Rattle.heard_routing.proofs.TableLemmas.{value_found, values_inserted, values_written, written_there}

-- ---- no call stands twice, and the links of each rise

pub once_none : (groups : List Group) → groups ≡ [] → HasEachOnce groups
unfolding IsDistinct
once_none groups is = subst HasEachOnce (sym is) (record { calls = tt; links = tt })

pub rises_of : (call : List ℕ) (groups : List Group) → HasEachOnce groups → Rises (links_of call groups)
rises_of call groups once = value_found (is_text call) Rises groups [] once.links tt

pub once_set : (link : ℕ) (call : List ℕ) (moment : ℕ) (groups new : List Group) → new ≡ with_moment link call moment groups → HasEachOnce groups → HasEachOnce new
once_set link call moment groups new is once = subst HasEachOnce (sym is) (record {
  calls = distinct_set nat_list_eq_equiv call (with_link link moment (links_of call groups)) groups once.calls;
  links = values_inserted is_text call Rises groups (with_link link moment (links_of call groups)) once.links (rises_with link moment (links_of call groups) (rises_of call groups once));
})

pub once_after : {A E : Type 0} (result : Result A E) (link : ℕ) (call : List ℕ) (moment : ℕ) (old new : List Group) → OnOk result (new ≡ with_moment link call moment old) → OnErr result (new ≡ old)
    → HasEachOnce old → HasEachOnce new
once_after (Ok x) link call moment old new ok err once = once_set link call moment old new ok once
once_after (Err e) link call moment old new ok err once = subst HasEachOnce (sym err) once

-- where the links of a call that is there are written, in the place of those that a look-up found
pub written_with : {A E : Type 0} (result : Result A E) (link : ℕ) (call : List ℕ) (moment : ℕ) (groups after : List Group) (old new : List Entry)
    → lookup (is_text call) groups ≡ Some old → after ≡ set_value (is_text call) groups new → OnOk result (new ≡ with_link link moment old) → OnOk result (after ≡ with_moment link call moment groups)
written_with (Ok x) link call moment groups after old new there is ok =
    is ∙ written_there is_text call groups old new there ∙ ap (insert_entry is_text groups call) (ok ∙ ap (λ o. with_link link moment (unwrap_or o [])) (sym there))
written_with (Err e) link call moment groups after old new there is ok = tt

pub written_back : {A E : Type 0} (result : Result A E) (call : List ℕ) (groups after : List Group) (old new : List Entry)
    → lookup (is_text call) groups ≡ Some old → after ≡ set_value (is_text call) groups new → OnErr result (new ≡ old) → OnErr result (after ≡ groups)
written_back (Ok x) call groups after old new there is err = tt
written_back (Err e) call groups after old new there is err = is ∙ set_value_same (is_text call) groups new (there ∙ ap (λ links. Some links) (sym err))

rises_in_each : (test : Entry → Bool) (groups : List Group) → AllByRecursion (λ group. Rises group.1) groups → AllByRecursion (λ group. Rises group.1) (kept_links test groups)
rises_in_each test [] all = tt
rises_in_each test (group ∷ groups) all = (rises_filtered test group.1 all.0, rises_in_each test groups all.1)

pub once_filtered : (test : Entry → Bool) (groups new : List Group) → new ≡ kept_links test groups → HasEachOnce groups → HasEachOnce new
once_filtered test groups new is once = subst HasEachOnce (sym is) (record {
  calls = subst (λ calls. IsDistinct is_text calls) (sym (keys_of-map_values (filter test) groups)) once.calls;
  links = rises_in_each test groups once.links;
})

pub once_emptied : (call : List ℕ) (groups new : List Group) → new ≡ without_links call groups → HasEachOnce groups → HasEachOnce new
once_emptied call groups new is once = subst HasEachOnce (sym is) (record {
  calls = subst (λ calls. IsDistinct is_text calls) (sym (keys-set_value (is_text call) groups [])) once.calls;
  links = values_written (is_text call) Rises groups [] once.links tt;
})

pub once_recent : (age now : ℕ) (groups new : List Group) → new ≡ recent_groups age now groups → HasEachOnce groups → HasEachOnce new
once_recent age now groups new is once =
    let kept = kept_links (is_recent_entry age now) groups in
    let still = once_filtered (is_recent_entry age now) groups kept refl once in
    subst HasEachOnce (sym is) (record {
      calls = IsDistinct-keys_filter is_text has_links kept still.calls;
      links = all_filtered (λ group. Rises group.1) has_links kept still.links;
    })

-- ---- which links have a call

is_filtered : (test : ℕ → Bool) (o : Option ℕ) → is_some (option_filter test o) ≡ is_some_and test o
is_filtered test None = refl
is_filtered test (Some moment) = by (test moment)
  where
    by : (b : Bool) → is_some (cond b (Some moment) None) ≡ b
    by true = refl
    by false = refl

-- the links that have a call, in rising order, each once
pub links_listed : (age now : ℕ) (call : List ℕ) (groups : List Group) → HasEachOnce groups → IsRisingListOf (links_with age call now groups) (has_recent age now groups call)
links_listed age now call groups once =
    let links = links_of call groups in
    let up = rises_of call groups once in
    record {
      rises = rises_strictly (filter (is_recent_entry age now) links) (rises_filtered (is_recent_entry age now) links up);
      exactly = λ link.
          sym (is_some-lookup (nat_eq link) (filter (is_recent_entry age now) links))
          ∙ ap (λ o. is_some o) (lookup-filter-values nat_eq_equiv (is_recent age now) link links (distinct_links links up))
          ∙ is_filtered (is_recent age now) (lookup (nat_eq link) links);
    }
