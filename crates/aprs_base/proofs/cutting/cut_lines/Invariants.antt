use Rattle.std.proofs.Common.{◌≡◌, ◌++◌, length}
use Rattle.aprs_base.specs.Cuts.{cuts_of, rest_of}
use Rattle.aprs_base.proofs.cutting.cut_lines.Given as goal

-- what is left makes up for what was cut
abbrev pub invariant-loop-end : goal.invariant-loop-end
invariant-loop-end l =
    (l.initial.out.items ++ cuts_of l.initial.rest ≡ l.out.items ++ cuts_of l.rest)
    × (rest_of l.initial.rest ≡ rest_of l.rest)

abbrev pub decreases-loop-end : goal.decreases-loop-end
decreases-loop-end l = length l.rest
