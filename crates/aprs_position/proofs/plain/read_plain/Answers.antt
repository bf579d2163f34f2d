use Rattle.std.proofs.Common.{◌∙◌}
use Rattle.aprs_position.proofs.Steps.{if_some}
use Rattle.aprs_position.proofs.PlainGrammar.{plain_again, plain_read}
use Rattle.aprs_position.proofs.plain.read_plain.Goals as goal

pub returns-clause-read : goal.returns-clause-read
returns-clause-read c = if_some _ _ _ c.parse.ensures (plain_read c.args.text.now)

pub returns-clause-only : goal.returns-clause-only
returns-clause-only c = λ place begins. c.parse.ensures ∙ plain_again c.args.text.now place begins
