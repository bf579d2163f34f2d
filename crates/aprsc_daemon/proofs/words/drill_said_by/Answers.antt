use Rattle.std.proofs.Common.{codes, refl, sym}
use Rattle.clap.specs.Words.{found_of}
use Rattle.clap.proofs.WalkLemmas.{one_text-rows}
use Rattle.aprsc_daemon.proofs.words.drill_said_by.Goals as goal

pub returns-clause-value : goal.returns-clause-value
returns-clause-value c =
    let found = found_of c.args.matches.now in
    rw (
      sym (one_text-rows found (codes "seed")),
      sym (one_text-rows found (codes "lines")),
      sym (one_text-rows found (codes "links")),
      sym (one_text-rows found (codes "workers")),
      c.number_of.ensures.value,
      c.number_of-2.ensures.value,
      c.number_of-3.ensures.value,
      c.number_of-4.ensures.value,
    ) refl
