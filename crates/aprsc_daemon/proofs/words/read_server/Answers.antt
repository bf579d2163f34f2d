use Rattle.std.proofs.Common.{◌≡◌, Err, ap}
use Rattle.aprsc_daemon.specs.declared.words.WordsError.TheVariants as words_error
use Rattle.aprsc_daemon.proofs.WordsLemmas.{asks, asks_nothing}
use Rattle.aprsc_daemon.proofs.words.read_server.Goals as goal

pub returns-in-Ok-clause-value : goal.returns-in-Ok-clause-value
returns-in-Ok-clause-value c = asks _ _ c.said_by.result c.requires c.in-Ok.ensures.good c.in-Ok.ensures.rows c.said_by.ensures.value

pub returns-in-Err-clause-refused : goal.returns-in-Err-clause-refused
returns-in-Err-clause-refused c = λ refused. asks_nothing _ (c.in-Err.ensures.refused (let same : c.in-Err.error ≡ words_error.Refused = cc in ap Err same))
