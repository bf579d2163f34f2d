-- For each link the calls that it has, so that what a link has is found without a walk through all calls.
use Rattle.std.specs.Prelude.{ℕ, ◌≡◌, ◌==◌, ◌&&◌, Bool, true, not, nat_eq, nat_lt, is_some, length, List, [], ◌∷◌, map, filter, unwrap_or}
use Rattle.std.specs.List.{list_any}
use Rattle.std.specs.Map.{lookup, set_value}
use Rattle.indexmap.specs.IndexMap.{insert_entry}
use Rattle.indexmap.specs.IndexSet.{insert_key}
use Rattle.filter_eval.specs.Passes.{is_text}
use Rattle.heard_routing.specs.Entries.{Entry, Group, is_another, links_of, moment_at}

-- a link, and calls
abbrev pub Listing : Type 0
Listing = ℕ × List (List ℕ)

abbrev pub calls_of : ℕ → List Listing → List (List ℕ)
calls_of link listed = unwrap_or (lookup (nat_eq link) listed) []

abbrev pub is_listed : List Listing → ℕ → List ℕ → Bool
is_listed listed link call = list_any (is_text call) (calls_of link listed)

abbrev pub has_call : List Group → ℕ → List ℕ → Bool
has_call groups link call = is_some (moment_at groups link call)

-- each call that a link has is listed
abbrev pub ListsAll : List Listing → List Group → Type 0
ListsAll listed groups = (link : ℕ) (call : List ℕ) → has_call groups link call ≡ true → is_listed listed link call ≡ true

-- each call that a link has is listed, and no other
abbrev pub ListsExactly : List Listing → List Group → Type 0
ListsExactly listed groups = (link : ℕ) (call : List ℕ) → is_listed listed link call ≡ has_call groups link call

-- the call is listed with the link
abbrev pub with_listing : ℕ → List ℕ → List Listing → List Listing
with_listing link call listed = insert_entry nat_eq listed link (insert_key is_text (calls_of link listed) call)

-- the call is no more listed with the link, and all else is as it was
abbrev pub Unlists : ℕ → List ℕ → List Listing → List Listing → Type 0
Unlists link call old new = (other : ℕ) (text : List ℕ) → is_listed new other text ≡ (not (other == link && is_text call text) && is_listed old other text)

-- the call is no more listed with any of these links, and all else is as it was
abbrev pub UnlistsEach : List Entry → List ℕ → List Listing → List Listing → Type 0
UnlistsEach links call old new = (other : ℕ) (text : List ℕ) → is_listed new other text ≡ (not (is_some (lookup (nat_eq other) links) && is_text call text) && is_listed old other text)

abbrev pub has_calls : Listing → Bool
has_calls listing = nat_lt 0 (length listing.1)

-- each link with those of its calls that it has; a link that has none is dropped
abbrev pub still_listed : List Group → List Listing → List Listing
still_listed groups listed = filter has_calls (map (λ listing. (listing.0, filter (has_call groups listing.0) listing.1)) listed)

-- the call without the link
abbrev pub without_one : ℕ → List ℕ → List Group → List Group
without_one link call groups = set_value (is_text call) groups (filter (is_another link) (links_of call groups))

-- each of the calls without the link
abbrev pub without_each : ℕ → List (List ℕ) → List Group → List Group
without_each link [] groups = groups
without_each link (call ∷ calls) groups = without_each link calls (without_one link call groups)
