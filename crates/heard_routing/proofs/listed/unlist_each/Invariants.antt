use Rattle.std.proofs.Common.{◌≡◌, ℕ, List, not, ◌&&◌, drop, is_some, nat_eq}
use Rattle.std.specs.Map.{lookup}
use Rattle.indexmap.specs.IndexMap.{hasher_of}
use Rattle.filter_eval.specs.Passes.{is_text}
use Rattle.heard_routing.specs.Listed.{is_listed}
use Rattle.heard_routing.proofs.listed.unlist_each.Given as goal

abbrev pub invariant-loop-entry : goal.invariant-loop-entry
invariant-loop-entry l =
    ((other : ℕ) (text : List ℕ)
    → (not (is_some (lookup (nat_eq other) (drop l.entry-index l.links)) && is_text l.call text) && is_listed l.listed.entries other text)
    ≡ (not (is_some (lookup (nat_eq other) l.links) && is_text l.call text) && is_listed l.initial.listed.entries other text))
    × (hasher_of l.listed ≡ hasher_of l.initial.listed)
