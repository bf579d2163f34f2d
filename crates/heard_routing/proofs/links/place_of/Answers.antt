use Rattle.std.proofs.Common.{rules}
use Rattle.std.proofs.lemmas.List.Sorted.{IsPartitionPoint-from_clause, IsPartitionedBy-ltb}
use Rattle.heard_routing.specs.Entries.{is_below}
use Rattle.heard_routing.proofs.LinkLemmas.{never_falls, passes_before}
use Rattle.heard_routing.proofs.links.place_of.Goals as goal

pub returns-clause-place : goal.returns-clause-place
returns-clause-place c = λ up.
    let split =
    IsPartitionPoint-from_clause (is_below c.args.link) c.args.entries.now c.partition_point.result c.partition_point.ensures.partitioned
    (IsPartitionedBy-ltb (λ entry. entry.0) c.args.entries.now c.args.link (never_falls c.args.entries.now up)) (λ a r f called. search rules) in
    passes_before (is_below c.args.link) c.args.entries.now c.partition_point.result c.partition_point.ensures.bound split.0 split.1
