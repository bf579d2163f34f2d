use Rattle.std.proofs.lemmas.List.{take_rest}
use Rattle.aprs_conf.proofs.WordLemmas.{plain_cut}
use Rattle.aprs_conf.proofs.words.plain_word.Goals as goal

pub returns-clause-words : goal.returns-clause-words
returns-clause-words c = rw (take_rest, c.plain_length-end.ensures.count) (plain_cut c.args.text.now)
