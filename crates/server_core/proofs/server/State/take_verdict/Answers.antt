use Rattle.std.proofs.Common.{subst}
use Rattle.line_verdict.specs.Fit.{IsFit}
use Rattle.server_core.proofs.server.State.take_verdict.Goals as goal

pub log_in-requires-clause-station : goal.log_in-requires-clause-station
log_in-requires-clause-station c = (subst IsFit c.in-LoggedIn.is c.requires.fit).0

pub log_in-requires-clause-few : goal.log_in-requires-clause-few
log_in-requires-clause-few c = (subst IsFit c.in-LoggedIn.is c.requires.fit).1

pub answer-requires : goal.answer-requires
answer-requires c = subst IsFit c.in-Filtered.is c.requires.fit
