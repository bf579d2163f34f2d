use Rattle.std.proofs.Common.{◌≡◌, take}
use Rattle.std.specs.Prelude.{reverse}
use Rattle.net_script.specs.Running.{last_link}
use Rattle.net_report.proofs.openings.last_link.Given as goal

-- the last of those so far
abbrev pub invariant-loop-opening : goal.invariant-loop-opening
invariant-loop-opening l = l.link ≡ last_link l.server l.call (reverse (take l.opening-index l.openings))
