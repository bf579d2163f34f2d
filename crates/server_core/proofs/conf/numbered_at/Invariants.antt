use Rattle.std.proofs.Common.{◌≡◌, ◌+◌, drop, length, slice_get}
use Rattle.server_core.specs.Meaning.{numbered}
use Rattle.server_core.proofs.conf.numbered_at.Given as goal

-- what is left to count, among the listeners that are left
abbrev pub invariant-loop-listen : goal.invariant-loop-listen
invariant-loop-listen l =
    (slice_get (numbered (drop l.listen-index l.listens)) l.left ≡ slice_get (numbered l.listens) l.number)
    × (length (numbered l.listens) + l.left ≡ length (numbered (drop l.listen-index l.listens)) + l.number)
