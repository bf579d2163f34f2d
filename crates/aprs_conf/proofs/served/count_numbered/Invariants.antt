use Rattle.std.proofs.Common.{◌≡◌, ◌≤◌, ◌+◌, drop, length}
use Rattle.aprs_conf.specs.Served.{numbered}
use Rattle.aprs_conf.proofs.served.count_numbered.Given as goal

-- what is counted, and what is left to count, make the whole
abbrev pub invariant-loop-listen : goal.invariant-loop-listen
invariant-loop-listen l = (l.count ≤ l.listen-index) × (l.count + length (numbered (drop l.listen-index l.listens)) ≡ length (numbered l.listens))
