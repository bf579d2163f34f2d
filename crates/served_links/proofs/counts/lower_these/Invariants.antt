use Rattle.std.proofs.Common.{ℕ, ◌+◌, List, drop, filter}
use Rattle.served_links.specs.Counts.{IsCounted, having, leaves}
use Rattle.served_links.proofs.counts.lower_these.Given as goal

abbrev pub invariant-loop-link : goal.invariant-loop-link
invariant-loop-link l =
    (other : List ℕ) (n : ℕ)
    → IsCounted other (n + having other (filter (leaves l.numbers) l.links)) l.initial.counts.entries
    → IsCounted other (n + having other (filter (leaves l.numbers) (drop l.link-index l.links))) l.counts.entries
