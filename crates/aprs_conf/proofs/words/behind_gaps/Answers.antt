use Rattle.std.proofs.lemmas.List.{take_rest}
use Rattle.login_pass.proofs.Cuts.{none_first}
use Rattle.aprs_conf.specs.Words.{is_gap}
use Rattle.aprs_conf.proofs.WordLemmas.{skip}
use Rattle.aprs_conf.proofs.words.behind_gaps.Goals as goal

pub returns-clause-words : goal.returns-clause-words
returns-clause-words c = rw (take_rest, c.leading_gaps.ensures.count) (skip c.args.text.now)

pub returns-clause-none : goal.returns-clause-none
returns-clause-none c = rw (take_rest, c.leading_gaps.ensures.count) (none_first is_gap c.args.text.now)
