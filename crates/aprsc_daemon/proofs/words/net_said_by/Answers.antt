use Rattle.std.proofs.Common.{codes, sym, refl}
use Rattle.clap.specs.Words.{found_of}
use Rattle.clap.proofs.WalkLemmas.{first_value-rows}
use Rattle.aprsc_daemon.proofs.words.net_said_by.Goals as goal

pub returns : goal.returns
returns c = rw (sym (first_value-rows (found_of c.args.matches.now) (codes "file")), c.file_of.ensures) refl
