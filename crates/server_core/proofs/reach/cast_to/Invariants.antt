use Rattle.std.proofs.Common.{◌≡◌, ◌++◌, drop, map}
use Rattle.std.specs.Arc.{arc_value}
use Rattle.aprs_history.specs.Dials.{casts_to}
use Rattle.server_core.specs.Meaning.{peer_of}
use Rattle.server_core.proofs.reach.cast_to.Given as goal

-- what is there so far, and what the peers that are left add, make the whole
abbrev pub invariant-loop-spec : goal.invariant-loop-spec
invariant-loop-spec l =
    (l.peer ≡ l._spec-index)
    × (l.casts.items ++ casts_to l.peer (map peer_of (drop l._spec-index l.peers)) (arc_value l.line) ≡ l.initial.casts.items ++ casts_to 0 (map peer_of l.peers) (arc_value l.line))
