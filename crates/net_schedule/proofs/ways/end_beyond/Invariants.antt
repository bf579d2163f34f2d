use Rattle.std.proofs.Common.{◌≡◌, drop}
use Rattle.net_history.specs.Network.{end_beyond}
use Rattle.net_schedule.specs.Running.{joins_of}
use Rattle.net_schedule.proofs.ways.end_beyond.Given as goal

abbrev pub invariant-loop-way : goal.invariant-loop-way
invariant-loop-way l = end_beyond l.server l.link (joins_of (drop l.way-index l.ways)) ≡ end_beyond l.server l.link (joins_of l.ways)
