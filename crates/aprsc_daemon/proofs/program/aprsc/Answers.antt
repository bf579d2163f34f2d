use Rattle.std.proofs.Common.{◌≡◌, ◌⊎◌, ap, map, sym, ◌∙◌, subst}
use Rattle.std.specs.Prelude.{string_bytes}
use Rattle.aprs_base.proofs.SlotLemmas.{each_takes_due}
use Rattle.aprsc_daemon.specs.Runs.{RunsFor, setting_named}
use Rattle.aprsc_daemon.specs.Phases.{JournalTold}
use Rattle.aprsc_daemon.specs.Causes.{CountsOnce, DrillEnds, Ended, NetEnds, Outside, is_before_serving, outside_of}
use Rattle.aprsc_daemon.proofs.CauseLemmas.{complete, counts, early, headline, keeps_promise, net_ends, not_named}
use Rattle.aprsc_daemon.proofs.WordsLemmas.{only_drill}
use Rattle.aprsc_daemon.proofs.program.aprsc.Goals as goal

pub returns-clause-run : goal.returns-clause-run
returns-clause-run g c = λ conf told tells read.
    subst (λ n. RunsFor conf (g.W.Wire.shown c.args.wire.now).told (g.W.Wire.shown c.run.new.wire).told (Ended n (setting_named conf))) (sym c.code.ensures)
    (headline _ told conf c.run.result tells read c.run.ensures.cause)

pub returns-clause-headline : goal.returns-clause-headline
returns-clause-headline g c = λ conf told tells read.
    keeps_promise conf (g.W.Wire.shown c.args.wire.now).told (g.W.Wire.shown c.run.new.wire).told _ (headline _ told conf c.run.result tells read c.run.ensures.cause)

pub returns-clause-cause : goal.returns-clause-cause
returns-clause-cause g c = (c.run.result, c.code.ensures, c.run.ensures.cause)

pub returns-clause-complete : goal.returns-clause-complete
returns-clause-complete g c = λ code asks sound listening going taken.
    subst (λ n. (n ≡ code) ⊎ (n ≡ 6)) (sym c.code.ensures) (complete _ code c.run.result asks sound listening going taken c.run.ensures.cause)

pub returns-clause-counts : goal.returns-clause-counts
returns-clause-counts g c =
    let o : Outside = outside_of (map string_bytes c.args.words.now) (g.F.Files.shown c.args.files.now) (g.F.Files.shown c.run.new.files)
    (g.W.Wire.shown c.args.wire.now) (g.W.Wire.shown c.run.new.wire) (g.S.Sink.shown c.args.out.now) (g.S.Sink.shown c.run.new.out) in
    subst (λ n. CountsOnce n o) (sym c.code.ensures) (counts o c.run.result c.run.ensures.cause)

pub returns-clause-early : goal.returns-clause-early
returns-clause-early g c = λ conf told tells read sound lost.
    early _ told conf c.run.result tells read sound (sym c.code.ensures ∙ lost) c.run.ensures.cause

pub returns-clause-journals : goal.returns-clause-journals
returns-clause-journals g c = λ conf told_files tells read.
    let told = c.run.ensures.journals conf told_files tells read in (
      told.0,
      each_takes_due (λ z. (goal.Journal-dyn g z).journal_shown z.1) told.0 c.args.journals.now.items c.run.new.journals.items told.1,
      subst (λ n. RunsFor conf (g.W.Wire.shown c.args.wire.now).told (g.W.Wire.shown c.run.new.wire).told (JournalTold n (setting_named conf) told.0)) (sym c.code.ensures) told.2,
    )

pub returns-clause-drill : goal.returns-clause-drill
returns-clause-drill g c = λ asked drilled.
    let words = map string_bytes c.args.words.now in
    let kept = c.run.ensures.drill asked drilled in (
      kept.0,
      kept.1,
      c.run.ensures.unnamed (λ conf read. not_named words read.asked (only_drill words asked drilled) read.named),
      subst (λ n. DrillEnds n asked.plan (g.S.Sink.shown c.args.out.now) (g.S.Sink.shown c.run.new.out)) (sym c.code.ensures) kept.2,
    )

pub returns-clause-still : goal.returns-clause-still
returns-clause-still g c = λ before. c.run.ensures.still (ap is_before_serving (sym c.code.ensures) ∙ before)

pub returns-clause-net : goal.returns-clause-net
returns-clause-net g c = λ asked is.
    let kept = c.run.ensures.net asked is in (
      kept.0,
      kept.1,
      subst (λ n. NetEnds n asked.file (g.F.Files.shown c.args.files.now).told (g.S.Sink.shown c.args.out.now) (g.S.Sink.shown c.run.new.out)) (sym c.code.ensures) (net_ends _ asked c.run.result is c.run.ensures.cause),
    )
