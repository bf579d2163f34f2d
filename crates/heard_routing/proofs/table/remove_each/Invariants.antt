use Rattle.std.proofs.Common.{◌≡◌, drop}
use Rattle.indexmap.specs.IndexMap.{hasher_of}
use Rattle.heard_routing.specs.Listed.{without_each}
use Rattle.heard_routing.proofs.table.remove_each.Given as goal

abbrev pub invariant-loop-call : goal.invariant-loop-call
invariant-loop-call l =
    (without_each l.link (drop l.call-index l.calls) l.table.entries ≡ without_each l.link l.calls l.initial.table.entries)
    × (hasher_of l.table ≡ hasher_of l.initial.table)
