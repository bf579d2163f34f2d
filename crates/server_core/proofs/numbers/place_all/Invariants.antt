use Rattle.std.proofs.Common.{◌≡◌, drop}
use Rattle.aprs_history.specs.Trace.{placed_all}
use Rattle.server_core.proofs.numbers.place_all.Given as goal

abbrev pub invariant-loop-number : goal.invariant-loop-number
invariant-loop-number l = placed_all (drop l.number-index l.more) l.numbers.items ≡ placed_all l.more l.initial.numbers.items
