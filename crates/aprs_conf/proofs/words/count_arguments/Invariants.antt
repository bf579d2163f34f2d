use Rattle.std.proofs.Common.{◌≡◌, ◌+◌, ◌≤◌, length}
use Rattle.aprs_conf.specs.Words.{arguments_of}
use Rattle.aprs_conf.proofs.words.count_arguments.Given as goal

-- so many were counted, no more than bytes were passed, and these are left
abbrev pub invariant-loop-behind : goal.invariant-loop-behind
invariant-loop-behind l = (l.count + length (arguments_of l.rest) ≡ length (arguments_of l.text)) × (l.count + length l.rest ≤ length l.text)

abbrev pub decreases-loop-behind : goal.decreases-loop-behind
decreases-loop-behind l = length l.rest
