use Rattle.std.proofs.Common.{◌≤◌, length, take}
use Rattle.std.specs.Io.KnownBytes.{Appends}
use Rattle.mio_wire.proofs.links.write_on.Given as goal

-- what was taken is the beginning of the bytes
abbrev pub invariant-loop : goal.invariant-loop
invariant-loop g l =
    (l.taken ≤ length l.bytes)
    × Appends (g.F.Write.contents l.initial.to) (g.F.Write.contents l.to) (take l.taken l.bytes)
