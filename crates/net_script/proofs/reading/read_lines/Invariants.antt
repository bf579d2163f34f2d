use Rattle.std.proofs.Common.{◌≡◌, ◌+◌, ◌≤◌, length}
use Rattle.net_script.specs.Grammar.{lines_of}
use Rattle.net_script.specs.Reading.{drafted, empty}
use Rattle.net_script.proofs.reading.read_lines.Given as goal

-- the lines that are left make of the script what all make of the empty one, and each line made one server or pair at most
abbrev pub invariant-loop-rest : goal.invariant-loop-rest
invariant-loop-rest l = (drafted l.number l.script (lines_of l.rest) ≡ drafted 1 empty (lines_of l.text))
    × (l.number + length l.rest ≤ 65537) × (length l.script.servers + 1 ≤ l.number) × (length l.script.pairs + 1 ≤ l.number)

abbrev pub decreases-loop-rest : goal.decreases-loop-rest
decreases-loop-rest l = length l.rest
