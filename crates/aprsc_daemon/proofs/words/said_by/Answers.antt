use Rattle.std.proofs.Common.{codes, sym, refl}
use Rattle.clap.specs.Words.{found_of}
use Rattle.clap.proofs.WalkLemmas.{first_value-rows, one_text-rows}
use Rattle.aprsc_daemon.proofs.words.said_by.Goals as goal

pub returns-clause-value : goal.returns-clause-value
returns-clause-value c =
    let found = found_of c.args.matches.now in
    rw (sym (first_value-rows found (codes "file")), sym (one_text-rows found (codes "workers")), sym (one_text-rows found (codes "check")), c.file_of.ensures, c.number_of.ensures.value, c.task_of.ensures) refl
