use Rattle.std.proofs.Common.{length}
use Rattle.aprsc_tests.proofs.cores.+are_fresh.Given as goal

abbrev pub decreases-are_fresh : goal.decreases-are_fresh
decreases-are_fresh l = length l.events.now
