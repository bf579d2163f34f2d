use Rattle.std.proofs.Common.{◌∙◌}
use Rattle.aprs_position.proofs.Steps.{if_some}
use Rattle.aprs_position.proofs.CompressedGrammar.{compressed_again, compressed_read}
use Rattle.aprs_position.proofs.compressed.read_compressed.Goals as goal

pub returns-clause-read : goal.returns-clause-read
returns-clause-read c = if_some _ _ _ c.parse.ensures (compressed_read c.args.text.now)

pub returns-clause-only : goal.returns-clause-only
returns-clause-only c = λ place begins. c.parse.ensures ∙ compressed_again c.args.text.now place begins
