use Rattle.std.proofs.Common.{◌≡◌, List, length}
use Rattle.filter_lang.specs.Seen.{NameSeen}
use Rattle.filter_eval.specs.Passes.{used_match}
use Rattle.filter_eval.proofs.paths.used.Given as goal

-- what is cut off was not used
abbrev pub invariant-loop-last : goal.invariant-loop-last
invariant-loop-last l = (names : List NameSeen) → used_match names l.rest ≡ used_match names l.vias

abbrev pub decreases-loop-last : goal.decreases-loop-last
decreases-loop-last l = length l.rest
