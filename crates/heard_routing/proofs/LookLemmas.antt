-- What a look-up gives after each change of a table.
use Rattle.std.proofs.Common.{◌≡◌, ℕ, Bool, true, false, cond, not, ◌&&◌, ◌==◌, filter, List, [], ◌∷◌, Option, Some, None, refl, sym, ap, ◌∙◌, nat_eq, unwrap_or, nat_lt, length, arith}
use Rattle.std.specs.Cmp.Lexicographic.{same_text}
use Rattle.std.specs.Map.{lookup, set_value}
use Rattle.std.specs.Option.{option_map}
use Rattle.std.proofs.Math.Bool.{and-false, and-true}
use Rattle.std.proofs.lemmas.Bool.{lt-ltb}
use Rattle.std.proofs.lemmas.Cmp.{nat_eq_equiv, nat_list_eq_equiv}
use Rattle.std.proofs.lemmas.Map.Entries.{lookup-filter-values, option_filter}
use Rattle.std.proofs.lemmas.Map.Made.{lookup-map_values}
use Rattle.filter_eval.specs.Passes.{is_text}
use Rattle.station_table.proofs.EntryLemmas.{lookup_set}
use Rattle.heard_routing.specs.Entries.{Entry, Group, HasEachOnce, is_another, links_of, moment_at, with_link, with_moment}
use Rattle.heard_routing.specs.Heard.{HeardSeen, heard_age, heard_at, is_recent, is_recent_entry, kept_links, noted, promise_age, promised, promised_at, recent, recent_groups, without_link, without_links, without_promises}
use Rattle.heard_routing.specs.LastHeard.{still}
use Rattle.heard_routing.proofs.EntryLemmas.{once_filtered, rises_of}
use Rattle.heard_routing.proofs.LinkLemmas.{distinct_links, lookup_with, lookup_without}

-- ---- what is set

pub moment_set : (groups : List Group) (link other : ℕ) (call text : List ℕ) (moment : ℕ)
    → moment_at (with_moment link call moment groups) other text ≡ cond (other == link && is_text text call) (Some moment) (moment_at groups other text)
moment_set groups link other call text moment =
    ap (λ o. lookup (nat_eq other) (unwrap_or o [])) (lookup_set nat_list_eq_equiv call text (with_link link moment (links_of call groups)) groups) ∙ by (is_text text call) refl
  where
    by : (b : Bool) → is_text text call ≡ b
        → lookup (nat_eq other) (unwrap_or (cond b (Some (with_link link moment (links_of call groups))) (lookup (is_text text) groups)) []) ≡ cond (other == link && b) (Some moment) (moment_at groups other text)
    by true is =
        let same : text ≡ call = same_text text call (sym is) in
        lookup_with link moment other (links_of call groups)
        ∙ ap (λ t. cond (other == link) (Some moment) (moment_at groups other t)) (sym same)
        ∙ ap (λ b. cond b (Some moment) (moment_at groups other text)) (sym (and-true (other == link)))
    by false is = ap (λ b. cond b (Some moment) (moment_at groups other text)) (sym (and-false (other == link)))

-- a link and a call that are set have the new moment, and all others what they had
pub heard_noted : (table : HeardSeen) (link other : ℕ) (call text : List ℕ) (moment : ℕ)
    → heard_at (noted link call moment table) other text ≡ cond (other == link && is_text text call) (Some moment) (heard_at table other text)
heard_noted table link other call text moment = moment_set table.heard link other call text moment

pub promised_promised : (table : HeardSeen) (link other : ℕ) (sender text : List ℕ) (moment : ℕ)
    → promised_at (promised link sender moment table) other text ≡ cond (other == link && is_text text sender) (Some moment) (promised_at table other text)
promised_promised table link other sender text moment = moment_set table.promises link other sender text moment

-- ---- what is removed

mapped_or_none : (f : List Entry → List Entry) → f [] ≡ [] → (o : Option (List Entry)) → unwrap_or (option_map f o) [] ≡ f (unwrap_or o [])
mapped_or_none f none None = sym none
mapped_or_none f none (Some links) = refl

links_kept : (test : Entry → Bool) (call : List ℕ) (groups : List Group) → links_of call (kept_links test groups) ≡ filter test (links_of call groups)
links_kept test call groups = ap (λ o. unwrap_or o []) (lookup-map_values (filter test) (is_text call) groups) ∙ mapped_or_none (filter test) refl (lookup (is_text call) groups)

pub moment_without : (groups : List Group) (gone link : ℕ) (call : List ℕ) → moment_at (kept_links (is_another gone) groups) link call ≡ cond (not (gone == link)) (moment_at groups link call) None
moment_without groups gone link call = ap (λ links. lookup (nat_eq link) links) (links_kept (is_another gone) call groups) ∙ lookup_without gone link (links_of call groups)

pub heard_without_link : (table : HeardSeen) (gone link : ℕ) (call : List ℕ) → heard_at (without_link gone table) link call ≡ cond (not (gone == link)) (heard_at table link call) None
heard_without_link table gone link call = moment_without table.heard gone link call

pub promised_without_link : (table : HeardSeen) (gone link : ℕ) (sender : List ℕ)
    → promised_at (without_link gone table) link sender ≡ cond (not (gone == link)) (promised_at table link sender) None
promised_without_link table gone link sender = moment_without table.promises gone link sender

-- the links of a call that are written, and those of each other call as they were
pub links_written : (call text : List ℕ) (new : List Entry) (groups : List Group) → (lookup (is_text call) groups ≡ None → new ≡ [])
    → links_of text (set_value (is_text call) groups new) ≡ cond (is_text call text) new (links_of text groups)
links_written call text new [] none = by (is_text call text) (none refl)
  where
    by : (b : Bool) → new ≡ [] → [] ≡ cond b new []
    by true is = sym is
    by false is = refl
links_written call text new (group ∷ groups) none = by (is_text call group.0) refl (links_written call text new groups) none
  where
    by : (b : Bool) → is_text call group.0 ≡ b
        → ((lookup (is_text call) groups ≡ None → new ≡ []) → links_of text (set_value (is_text call) groups new) ≡ cond (is_text call text) new (links_of text groups))
        → (cond b (Some group.1) (lookup (is_text call) groups) ≡ None → new ≡ [])
        → links_of text (cond b ((group.0, new) ∷ groups) (group ∷ set_value (is_text call) groups new)) ≡ cond (is_text call text) new (unwrap_or (cond (is_text text group.0) (Some group.1) (lookup (is_text text) groups)) [])
    by true is rest none =
        let here : is_text call text ≡ is_text text group.0 = nat_list_eq_equiv.symm call text ∙ ap (is_text text) (same_text call group.0 (sym is)) in
        rw here (there (is_text text group.0))
      where
        there : (b : Bool) → unwrap_or (cond b (Some new) (lookup (is_text text) groups)) [] ≡ cond b new (unwrap_or (cond b (Some group.1) (lookup (is_text text) groups)) [])
        there true = refl
        there false = refl
    by false is rest none = there (is_text text group.0) refl
      where
        there : (b : Bool) → is_text text group.0 ≡ b
            → unwrap_or (cond b (Some group.1) (lookup (is_text text) (set_value (is_text call) groups new))) [] ≡ cond (is_text call text) new (unwrap_or (cond b (Some group.1) (lookup (is_text text) groups)) [])
        there true here =
            let apart : is_text call text ≡ false = ap (is_text call) (same_text text group.0 (sym here)) ∙ is in
            rw apart refl
        there false here = rest none

pub moment_emptied : (groups : List Group) (spent sender : List ℕ) (link : ℕ) → moment_at (without_links spent groups) link sender ≡ cond (not (is_text spent sender)) (moment_at groups link sender) None
moment_emptied groups spent sender link = ap (λ links. lookup (nat_eq link) links) (links_written spent sender [] groups (λ none. refl)) ∙ by (is_text spent sender)
  where
    by : (b : Bool) → lookup (nat_eq link) (cond b [] (links_of sender groups)) ≡ cond (not b) (moment_at groups link sender) None
    by true = refl
    by false = refl

pub promised_without_promises : (table : HeardSeen) (spent sender : List ℕ) (link : ℕ)
    → promised_at (without_promises spent table) link sender ≡ cond (not (is_text spent sender)) (promised_at table link sender) None
promised_without_promises table spent sender link = moment_emptied table.promises spent sender link

-- ---- what is too old

still_is : (age now : ℕ) (o : Option ℕ) → option_filter (is_recent age now) o ≡ still age now o
still_is age now None = refl
still_is age now (Some moment) = refl

dropped_is_none : (o : Option (List Entry)) → unwrap_or (option_filter (λ links. nat_lt 0 (length links)) o) [] ≡ unwrap_or o []
dropped_is_none None = refl
dropped_is_none (Some []) = refl
dropped_is_none (Some (e ∷ es)) = rw (lt-ltb 0 (length (e ∷ es)) (omega arith)) refl

pub links_recent : (age now : ℕ) (call : List ℕ) (groups : List Group) → HasEachOnce groups → links_of call (recent_groups age now groups) ≡ filter (is_recent_entry age now) (links_of call groups)
links_recent age now call groups once =
    let kept = kept_links (is_recent_entry age now) groups in
    let still_once = once_filtered (is_recent_entry age now) groups kept refl once in
    ap (λ o. unwrap_or o []) (lookup-filter-values nat_list_eq_equiv (λ links. nat_lt 0 (length links)) call kept still_once.calls)
    ∙ dropped_is_none (lookup (is_text call) kept) ∙ links_kept (is_recent_entry age now) call groups

pub moment_recent : (age now : ℕ) (groups : List Group) (link : ℕ) (call : List ℕ) → HasEachOnce groups → moment_at (recent_groups age now groups) link call ≡ still age now (moment_at groups link call)
moment_recent age now groups link call once =
    let links = links_of call groups in
    ap (λ l. lookup (nat_eq link) l) (links_recent age now call groups once)
    ∙ lookup-filter-values nat_eq_equiv (is_recent age now) link links (distinct_links links (rises_of call groups once)) ∙ still_is age now (lookup (nat_eq link) links)

pub heard_recent : (now : ℕ) (table : HeardSeen) (link : ℕ) (call : List ℕ) → HasEachOnce table.heard → heard_at (recent now table) link call ≡ still heard_age now (heard_at table link call)
heard_recent now table link call once = moment_recent heard_age now table.heard link call once

pub promised_recent : (now : ℕ) (table : HeardSeen) (link : ℕ) (sender : List ℕ) → HasEachOnce table.promises
    → promised_at (recent now table) link sender ≡ still promise_age now (promised_at table link sender)
promised_recent now table link sender once = moment_recent promise_age now table.promises link sender once
