use Rattle.std.proofs.Common.{◌∙◌}
use Rattle.aprs_position.proofs.Steps.{if_some}
use Rattle.aprs_position.proofs.EitherGrammar.{either_again, either_read}
use Rattle.aprs_position.proofs.either.read_either.Goals as goal

pub returns-clause-read : goal.returns-clause-read
returns-clause-read c = if_some _ _ _ c.parse.ensures (either_read c.args.text.now)

pub returns-clause-only : goal.returns-clause-only
returns-clause-only c = λ place begins. c.parse.ensures ∙ either_again c.args.text.now place begins
