use Rattle.std.proofs.Common.{inl, refl}
use Rattle.aprsc_daemon.specs.Saying.{summary_text}
use Rattle.aprsc_daemon.proofs.CauseLemmas.{drill_cause, drill_ends}
use Rattle.aprsc_daemon.proofs.DrillLemmas.{summary_of}
use Rattle.aprsc_daemon.proofs.program.run_drill.Goals as goal

pub returns-in-Ok-clause-drill : goal.returns-in-Ok-clause-drill
returns-in-Ok-clause-drill g c =
    let text = summary_text c.args.asked.plan c.in-Ok.counts.totals c.in-Ok.counts.taken in
    drill_ends c.args.asked.plan _ _ text c.say_made.result (summary_of c.args.asked.plan c.in-Ok.counts c.in-Ok.ensures) (c.say_made.ensures text c.summary.ensures)

pub returns-in-Ok-clause-cause : goal.returns-in-Ok-clause-cause
returns-in-Ok-clause-cause g c = λ words files wire named.
    let text = summary_text c.args.asked.plan c.in-Ok.counts.totals c.in-Ok.counts.taken in
    drill_cause _ c.args.asked text c.say_made.result named refl (record { file = inl (refl, refl, refl); reads = refl; listens = refl; nexts = refl }) (summary_of c.args.asked.plan c.in-Ok.counts c.in-Ok.ensures) (c.say_made.ensures text c.summary.ensures)
