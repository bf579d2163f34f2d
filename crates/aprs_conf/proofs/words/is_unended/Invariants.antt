use Rattle.std.proofs.Common.{◌≡◌, length}
use Rattle.aprs_conf.specs.Words.{has_open, words_of}
use Rattle.aprs_conf.proofs.words.is_unended.Given as goal

-- what is left has such a word exactly where the line has one
abbrev pub invariant-loop-behind : goal.invariant-loop-behind
invariant-loop-behind l = has_open (words_of l.rest) ≡ has_open (words_of l.line)

abbrev pub decreases-loop-behind : goal.decreases-loop-behind
decreases-loop-behind l = length l.rest
