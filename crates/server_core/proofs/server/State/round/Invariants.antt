use Rattle.std.proofs.Common.{drop}
use Rattle.server_core.proofs.WholeRoundLemmas.{WalkedSoFar}
use Rattle.server_core.proofs.server.State.round.Given as goal

abbrev pub invariant-loop-event : goal.invariant-loop-event
invariant-loop-event g l = WalkedSoFar l.initial.self l.events l.self (drop l.event-index l.events) l.initial.lines.items l.lines.items
