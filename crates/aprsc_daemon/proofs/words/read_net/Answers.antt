use Rattle.std.proofs.Common.{◌≡◌, Err, ap}
use Rattle.aprsc_daemon.specs.declared.words.WordsError.TheVariants as words_error
use Rattle.aprsc_daemon.proofs.WordsLemmas.{asks_net, no_net}
use Rattle.aprsc_daemon.proofs.words.read_net.Goals as goal

pub returns-in-Ok-clause-value : goal.returns-in-Ok-clause-value
returns-in-Ok-clause-value c = asks_net _ _ c.net_said_by.result c.in-Ok.ensures.good c.in-Ok.ensures.rows c.net_said_by.ensures

pub returns-in-Err-clause-refused : goal.returns-in-Err-clause-refused
returns-in-Err-clause-refused c = λ refused. no_net _ (c.in-Err.ensures.refused (let same : c.in-Err.error ≡ words_error.Refused = cc in ap Err same))
