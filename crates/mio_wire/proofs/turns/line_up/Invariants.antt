use Rattle.std.proofs.Common.{◌≡◌, ◌++◌, take}
use Rattle.mio_wire.specs.Sources.{ending, going}
use Rattle.mio_wire.proofs.turns.line_up.Given as goal

-- the sources so far stand behind what was there
abbrev pub invariant-loop-source : goal.invariant-loop-source
invariant-loop-source l =
    (l.ready.items ≡ l.initial.ready.items ++ going (take l.source-index l.sources))
    × (l.ends.items ≡ l.initial.ends.items ++ ending (take l.source-index l.sources))
