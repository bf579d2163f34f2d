use Rattle.std.proofs.Common.{◌∙◌, sym}
use Rattle.aprs_history.proofs.LineLemmas.{login_station}
use Rattle.line_verdict.proofs.submitting.submitter_of.Goals as goal

pub returns-in-Ok-3-clause-station : goal.returns-in-Ok-3-clause-station
returns-in-Ok-3-clause-station c = login_station c.in-Line.line c.in-Ok.login (sym c.read_login.ensures ∙ c.in-Ok.is)
