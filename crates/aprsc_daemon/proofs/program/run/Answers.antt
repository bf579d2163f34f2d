use Rattle.std.proofs.Common.{◌≡◌, ◌∙◌, [], Err, Some, ap, inl, map, refl, subst, sym}
use Rattle.std.specs.Prelude.{string_bytes}
use Rattle.aprs_base.proofs.SlotLemmas.{each_takes-none}
use Rattle.aprsc_daemon.specs.Causes.{code_of_status}
use Rattle.aprsc_daemon.specs.Asked.{AskFor}
use Rattle.aprsc_daemon.specs.Words.{ServerWordsSeen, asked_of}
use Rattle.aprsc_daemon.specs.declared.program.Status.TheVariants as status
use Rattle.aprsc_daemon.proofs.JournalLemmas.{untouched}
use Rattle.aprsc_daemon.proofs.CauseLemmas.{memory_cause, not_both_modes, not_net_and_drill, not_net_too, valid_cause, words_cause}
use Rattle.aprsc_daemon.specs.Saying.{valid_text}
use Rattle.aprsc_daemon.specs.declared.words.Task.TheVariants as task
use Rattle.aprsc_daemon.proofs.LoadLemmas.{named_conf, reads_well, unfit_cause}
use Rattle.aprsc_daemon.proofs.program.run.Goals as goal

pub returns-in-Err-Refused-clause-cause : goal.returns-in-Err-Refused-clause-cause
returns-in-Err-Refused-clause-cause g c =
    let bad = c.in-Err-Refused.ensures.refused (ap Err c.in-Err-Refused.field-0-is) in
    words_cause _ _ c.say.result bad refl (record { file = inl (refl, refl, refl); reads = refl; listens = refl; nexts = refl }) c.usage.ensures c.say.ensures

pub returns-in-Err-Memory-clause-cause : goal.returns-in-Err-Memory-clause-cause
returns-in-Err-Memory-clause-cause g c = memory_cause _ refl (inl refl) (record { file = inl (refl, refl, refl); reads = refl; listens = refl; nexts = refl })

pub returns-in-Err-Refused-clause-journals : goal.returns-in-Err-Refused-clause-journals
returns-in-Err-Refused-clause-journals g c = λ conf told_files tells read. ([], each_takes-none (λ z. (goal.Journal-dyn g z).journal_shown z.1) c.args.journals.now.items, untouched conf (g.W.Wire.shown c.args.wire.now).told (code_of_status _))

pub returns-in-Err-Memory-clause-journals : goal.returns-in-Err-Memory-clause-journals
returns-in-Err-Memory-clause-journals g c = λ conf told_files tells read. ([], each_takes-none (λ z. (goal.Journal-dyn g z).journal_shown z.1) c.args.journals.now.items, untouched conf (g.W.Wire.shown c.args.wire.now).told (code_of_status status.NoMemory))

pub returns-in-Ok-Drill-clause-journals : goal.returns-in-Ok-Drill-clause-journals
returns-in-Ok-Drill-clause-journals g c = λ conf told_files tells read. absurd (not_both_modes (map string_bytes c.args.words.now) c.in-Ok-Drill.asked read.asked (subst (AskFor (map string_bytes c.args.words.now)) c.in-Ok-Drill.field-0-is c.in-Ok-Drill.ensures.value) read.named)

pub returns-in-Ok-Drill-clause-net : goal.returns-in-Ok-Drill-clause-net
returns-in-Ok-Drill-clause-net g c = λ net is. absurd (not_net_and_drill (map string_bytes c.args.words.now) net c.in-Ok-Drill.asked is (subst (AskFor (map string_bytes c.args.words.now)) c.in-Ok-Drill.field-0-is c.in-Ok-Drill.ensures.value))

pub returns-in-Ok-Net-clause-drill : goal.returns-in-Ok-Net-clause-drill
returns-in-Ok-Net-clause-drill g c = λ asked drilled. absurd (not_net_and_drill (map string_bytes c.args.words.now) c.in-Ok-Net.asked asked (subst (AskFor (map string_bytes c.args.words.now)) c.in-Ok-Net.field-0-is c.in-Ok-Net.ensures.value) drilled)

pub returns-in-Ok-Net-clause-journals : goal.returns-in-Ok-Net-clause-journals
returns-in-Ok-Net-clause-journals g c = λ conf told_files tells read. absurd (not_net_too (map string_bytes c.args.words.now) c.in-Ok-Net.asked read.asked (subst (AskFor (map string_bytes c.args.words.now)) c.in-Ok-Net.field-0-is c.in-Ok-Net.ensures.value) read.named)

pub returns-in-Ok-Net-clause-cause : goal.returns-in-Ok-Net-clause-cause
returns-in-Ok-Net-clause-cause g c = c.run_net.ensures (map string_bytes c.args.words.now) (g.W.Wire.shown c.args.wire.now) (subst (AskFor (map string_bytes c.args.words.now)) c.in-Ok-Net.field-0-is c.in-Ok-Net.ensures.value)

pub returns-in-Serve-clause-drill : goal.returns-in-Serve-clause-drill
returns-in-Serve-clause-drill g c = λ asked drilled. absurd (not_both_modes (map string_bytes c.args.words.now) asked c.in-Ok-Server.asked drilled (subst (AskFor (map string_bytes c.args.words.now)) c.in-Ok-Server.field-0-is c.in-Ok-Server.ensures.value))

pub returns-in-Check-clause-drill : goal.returns-in-Check-clause-drill
returns-in-Check-clause-drill g c = λ asked drilled. absurd (not_both_modes (map string_bytes c.args.words.now) asked c.in-Ok-Server.asked drilled (subst (AskFor (map string_bytes c.args.words.now)) c.in-Ok-Server.field-0-is c.in-Ok-Server.ensures.value))

pub returns-in-Err-clause-drill : goal.returns-in-Err-clause-drill
returns-in-Err-clause-drill g c = λ asked drilled. absurd (not_both_modes (map string_bytes c.args.words.now) asked c.in-Ok-Server.asked drilled (subst (AskFor (map string_bytes c.args.words.now)) c.in-Ok-Server.field-0-is c.in-Ok-Server.ensures.value))

pub returns-in-Serve-clause-net : goal.returns-in-Serve-clause-net
returns-in-Serve-clause-net g c = λ net is. absurd (not_net_too (map string_bytes c.args.words.now) net c.in-Ok-Server.asked is (subst (AskFor (map string_bytes c.args.words.now)) c.in-Ok-Server.field-0-is c.in-Ok-Server.ensures.value))

pub returns-in-Serve-clause-unnamed : goal.returns-in-Serve-clause-unnamed
returns-in-Serve-clause-unnamed g c = λ none.
    let words = map string_bytes c.args.words.now in
    let asked : ServerWordsSeen = record { file = c.asked.inside.file.now; workers = c.asked.inside.workers; task = c.asked.inside.task } in
    let named : asked_of words ≡ Some asked = subst (AskFor words) c.in-Ok-Server.field-0-is c.in-Ok-Server.ensures.value ∙ ap Some (sym c.asked.view_is) in
    absurd (none c.in-Ok.conf (named_conf task.Serve words (g.F.Files.shown c.args.files.now) (g.F.Files.shown c.load.new.files) asked c.in-Ok.conf named c.in-Serve.is c.in-Ok.ensures))

pub returns-in-Check-clause-cause : goal.returns-in-Check-clause-cause
returns-in-Check-clause-cause g c =
    let words = map string_bytes c.args.words.now in
    let asked : ServerWordsSeen = record { file = c.asked.inside.file.now; workers = c.asked.inside.workers; task = c.asked.inside.task } in
    let named : asked_of words ≡ Some asked = subst (AskFor words) c.in-Ok-Server.field-0-is c.in-Ok-Server.ensures.value ∙ ap Some (sym c.asked.view_is) in
    let read = named_conf task.Check words (g.F.Files.shown c.args.files.now) (g.F.Files.shown c.load.new.files) asked c.in-Ok.conf named c.in-Check.is c.in-Ok.ensures in
    let well = reads_well words (g.F.Files.shown c.args.files.now) (g.F.Files.shown c.load.new.files) asked c.in-Ok.conf named c.in-Ok.ensures in
    valid_cause _ c.in-Ok.conf c.say_made.result read refl (record { file = well.0; reads = well.1; listens = refl; nexts = refl }) (c.say_made.ensures (valid_text c.asked.inside.file.now) c.valid.ensures)

pub returns-in-Err-clause-journals : goal.returns-in-Err-clause-journals
returns-in-Err-clause-journals g c = λ conf told_files tells read. ([], each_takes-none (λ z. (goal.Journal-dyn g z).journal_shown z.1) c.args.journals.now.items, untouched conf (g.W.Wire.shown c.args.wire.now).told (code_of_status _))

pub returns-in-Err-clause-cause : goal.returns-in-Err-clause-cause
returns-in-Err-clause-cause g c =
    let words = map string_bytes c.args.words.now in
    let asked : ServerWordsSeen = record { file = c.asked.inside.file.now; workers = c.asked.inside.workers; task = c.asked.inside.task } in
    let named : asked_of words ≡ Some asked = subst (AskFor words) c.in-Ok-Server.field-0-is c.in-Ok-Server.ensures.value ∙ ap Some (sym c.asked.view_is) in
    unfit_cause _ asked c.in-Err.why c.say_unfit.result named c.in-Err.ensures c.say_unfit.ensures refl
