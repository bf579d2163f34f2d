use Rattle.std.proofs.Common.{◌∙◌}
use Rattle.aprs_base.specs.Bytes.{base_of}
use Rattle.aprs_position.proofs.Steps.{if_some}
use Rattle.mic_e.proofs.GrammarLemmas.{place_again, place_read}
use Rattle.mic_e.proofs.read.Goals as goal

pub returns-clause-read : goal.returns-clause-read
returns-clause-read c = if_some _ _ _ c.parse.ensures (place_read (base_of c.args.dest.now) c.args.body.now)

pub returns-clause-only : goal.returns-clause-only
returns-clause-only c = λ place writes. c.parse.ensures ∙ place_again (base_of c.args.dest.now) c.args.body.now place writes
