-- Calls with the links that have them, and a moment of each.
use Rattle.std.specs.Prelude.{ℕ, ◌<◌, ◌++◌, Bool, not, nat_eq, nat_lt, List, [], ◌∷◌, filter, Option, unwrap_or}
use Rattle.std.specs.Bool.{⊤}
use Rattle.std.specs.List.{AllByRecursion, IsDistinct}
use Rattle.std.specs.Map.{keys_of, lookup}
use Rattle.std.specs.declared.random_state.RandomState.{RandomState}
use Rattle.indexmap.specs.IndexMap.{insert_entry}
use Rattle.filter_eval.specs.Passes.{is_text}

-- a link and a moment
abbrev pub Entry : Type 0
Entry = ℕ × ℕ

-- a call, and the links that have it
abbrev pub Group : Type 0
Group = List ℕ × List Entry

-- calls with the links that have them, and the key of the hasher
pub record GroupsSeen : Type 0 where
  pub groups : List Group
  pub hasher : RandomState

abbrev pub no_groups : RandomState → GroupsSeen
no_groups hasher = record { groups = []; hasher = hasher }

-- each link is lower than those after it
abbrev pub Rises : List Entry → Type 0
Rises [] = ⊤
Rises (entry ∷ links) = AllByRecursion (λ other. entry.0 < other.0) links × Rises links

-- no call stands twice, and with each call the links rise
pub record HasEachOnce (groups : List Group) : Type 0 where
  pub calls : IsDistinct is_text (keys_of groups)
  pub links : AllByRecursion (λ group. Rises group.1) groups

-- ---- what stands there

-- the links that have the call
abbrev pub links_of : List ℕ → List Group → List Entry
links_of call groups = unwrap_or (lookup (is_text call) groups) []

-- the moment at which the link has the call
abbrev pub moment_at : List Group → ℕ → List ℕ → Option ℕ
moment_at groups link call = lookup (nat_eq link) (links_of call groups)

-- ---- what changes

abbrev pub is_below : ℕ → Entry → Bool
is_below link entry = nat_lt entry.0 link

abbrev pub is_above : ℕ → Entry → Bool
is_above link entry = nat_lt link entry.0

-- the lower links, the link with its new moment, and the higher links
abbrev pub with_link : ℕ → ℕ → List Entry → List Entry
with_link link moment links = filter (is_below link) links ++ (link, moment) ∷ filter (is_above link) links

-- the link has the call at this moment. A call that is new goes last.
abbrev pub with_moment : ℕ → List ℕ → ℕ → List Group → List Group
with_moment link call moment groups = insert_entry is_text groups call (with_link link moment (links_of call groups))

abbrev pub is_of : ℕ → Entry → Bool
is_of link entry = nat_eq link entry.0

abbrev pub is_another : ℕ → Entry → Bool
is_another link entry = not (is_of link entry)
