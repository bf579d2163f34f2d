use Rattle.std.proofs.Common.{◌≡◌, Err, ap}
use Rattle.aprsc_daemon.specs.declared.words.WordsError.TheVariants as words_error
use Rattle.aprsc_daemon.proofs.WordsLemmas.{no_drill}
use Rattle.aprsc_daemon.proofs.words.read_drill.Goals as goal

pub returns-clause-refused : goal.returns-clause-refused
returns-clause-refused c = λ refused. no_drill _ (c.in-Err.ensures.refused (let same : c.in-Err.error ≡ words_error.Refused = cc in ap Err same))
