-- Keys and values in the order in which the keys came: what is written where a key stands, and what `retain` leaves.
use Rattle.std.proofs.Common.{◌≡◌, ℕ, Bool, true, false, true≢false, cond, filter, map, List, [], ◌∷◌, Option, Some, None, refl, sym, ap, ◌∙◌, subst, unwrap_or, nat_lt, length, arith}
use Rattle.std.specs.List.{AllByRecursion}
use Rattle.std.specs.Map.{lookup, set_value}
use Rattle.std.specs.Map.Calls.{RetainsPairs}
use Rattle.std.proofs.lemmas.Bool.{lt-ltb}
use Rattle.std.proofs.lemmas.Map.Steps.{set_value_same}
use Rattle.indexmap.specs.IndexMap.{insert_entry}
use Rattle.filter_eval.specs.Passes.{is_text}
use Rattle.heard_routing.specs.Entries.{Entry, Group, links_of}
use Rattle.heard_routing.specs.Heard.{without_links}

module _ {K X : Type 0} (eq : K → K → Bool) (k : K) where
  -- where the key stands, a new value is what `insert` writes
  pub written_there : (es : List (K × X)) (old new : X) → lookup (eq k) es ≡ Some old → set_value (eq k) es new ≡ insert_entry eq es k new
  written_there [] old new there = absurd (cc)
  written_there (e ∷ es) old new there = by (written_there es old new) (eq k e.0) there
    where
      by : (lookup (eq k) es ≡ Some old → set_value (eq k) es new ≡ insert_entry eq es k new) → (b : Bool) → cond b (Some e.1) (lookup (eq k) es) ≡ Some old
          → cond b ((e.0, new) ∷ es) (e ∷ set_value (eq k) es new) ≡ cond b ((e.0, new) ∷ es) (e ∷ insert_entry eq es k new)
      by rest true there = refl
      by rest false there = ap (λ l. e ∷ l) (rest there)

module _ {K X : Type 0} (test : K → Bool) where
  -- where no key passes, nothing is written
  pub written_nowhere : (es : List (K × X)) (new : X) → lookup test es ≡ None → set_value test es new ≡ es
  written_nowhere [] new none = refl
  written_nowhere (e ∷ es) new none = by (written_nowhere es new) (test e.0) none
    where
      by : (lookup test es ≡ None → set_value test es new ≡ es) → (b : Bool) → cond b (Some e.1) (lookup test es) ≡ None → cond b ((e.0, new) ∷ es) (e ∷ set_value test es new) ≡ e ∷ es
      by rest true none = absurd (cc)
      by rest false none = ap (λ l. e ∷ l) (rest none)

  -- what holds of each value holds of the one that a look-up finds
  pub value_found : (P : X → Type 0) (es : List (K × X)) (default : X) → AllByRecursion (λ e. P e.1) es → P default → P (unwrap_or (lookup test es) default)
  value_found P [] default all at = at
  value_found P (e ∷ es) default all at = by (value_found P es default all.1 at) (test e.0)
    where
      by : P (unwrap_or (lookup test es) default) → (b : Bool) → P (unwrap_or (cond b (Some e.1) (lookup test es)) default)
      by rest true = all.0
      by rest false = rest

  pub values_written : (P : X → Type 0) (es : List (K × X)) (new : X) → AllByRecursion (λ e. P e.1) es → P new → AllByRecursion (λ e. P e.1) (set_value test es new)
  values_written P [] new all at = tt
  values_written P (e ∷ es) new all at = by (values_written P es new all.1 at) (test e.0)
    where
      by : AllByRecursion (λ e. P e.1) (set_value test es new) → (b : Bool) → AllByRecursion (λ e. P e.1) (cond b ((e.0, new) ∷ es) (e ∷ set_value test es new))
      by rest true = (at, all.1)
      by rest false = (all.0, rest)

pub values_inserted : {K X : Type 0} (eq : K → K → Bool) (k : K) (P : X → Type 0) (es : List (K × X)) (new : X) → AllByRecursion (λ e. P e.1) es → P new
    → AllByRecursion (λ e. P e.1) (insert_entry eq es k new)
values_inserted eq k P [] new all at = (at, tt)
values_inserted {K} {X} eq k P (e ∷ es) new all at = by (values_inserted eq k P es new all.1 at) (eq k e.0)
  where
    by : AllByRecursion (λ (e : K × X). P e.1) (insert_entry eq es k new) → (b : Bool) → AllByRecursion (λ (e : K × X). P e.1) (cond b ((e.0, new) ∷ es) (e ∷ insert_entry eq es k new))
    by rest true = (at, all.1)
    by rest false = (all.0, rest)

-- what a map's `retain` leaves, where the closure writes a value by the key and the old one, and keeps it by a test of the new
module _ {K X F : Type 0} (T : F → K → X → Bool → X → F → Type 0) (write : K → X → X) (keeps : X → Bool) (f : F)
    (says : (k : K) (v : X) (b : Bool) (w : X) (g : F) → T f k v b w g → (b ≡ keeps w) × (w ≡ write k v) × (g ≡ f)) where
  pub retained : (es kept : List (K × X)) → RetainsPairs T f es kept → kept ≡ filter (λ e. keeps e.1) (map (λ e. (e.0, write e.0 e.1)) es)
  retained [] kept h = h
  retained (e ∷ es) kept h =
      let s = says e.0 e.1 h.0 h.1 h.2 h.4 in
      let rest = retained es h.3 (subst (λ g. RetainsPairs T g es h.3) s.2 h.5) in
      let test = s.0 ∙ ap keeps s.1 in
      h.6 ∙ (λ j. cond (test j) ((e.0, s.1 j) ∷ rest j) (rest j))

-- where no link has the call, there is nothing to remove
pub nothing_spent : (call : List ℕ) (groups : List Group) → nat_lt 0 (length (links_of call groups)) ≡ false → without_links call groups ≡ groups
nothing_spent call groups none = by (lookup (is_text call) groups) refl none
  where
    by : (o : Option (List Entry)) → lookup (is_text call) groups ≡ o → nat_lt 0 (length (unwrap_or o [])) ≡ false → without_links call groups ≡ groups
    by None is none = written_nowhere (is_text call) groups [] is
    by (Some []) is none = set_value_same (is_text call) groups [] is
    by (Some (link ∷ links)) is none = absurd (true≢false (sym (lt-ltb 0 (length (link ∷ links)) (omega arith)) ∙ none))
