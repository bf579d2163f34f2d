use Rattle.std.proofs.Common.{◌≡◌}
use Rattle.std.specs.Prelude.{option_copied}
use Rattle.aprs_conf.specs.Grammar.{drafted, empty}
use Rattle.aprs_conf.specs.Words.{lines_of}
use Rattle.aprs_conf.specs.Reading.{lines_behind}
use Rattle.aprs_conf.proofs.DraftLemmas.{left}
use Rattle.aprs_conf.proofs.reading.read_lines.Given as goal

-- the lines that are left make of the draft what all make of the empty one
abbrev pub invariant-loop-rest : goal.invariant-loop-rest
invariant-loop-rest l = drafted l.number l.draft (lines_behind (option_copied l.rest)) ≡ drafted 1 empty (lines_of l.text)

abbrev pub decreases-loop-rest : goal.decreases-loop-rest
decreases-loop-rest l = left (option_copied l.rest)
