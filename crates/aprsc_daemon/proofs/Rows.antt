-- Worked words and texts: what the definitions make of them.
use Rattle.std.specs.Prelude.{◌≡◌, List, [], ◌∷◌, Some, None, refl, codes}
use Rattle.std.specs.Fmt.{decimal}
use Rattle.std.proofs.Common.{lit<, ap, ◌∙◌, sym, append-nil}
use Rattle.std.proofs.lemmas.Fmt.{decimal_digit}
use Rattle.std.proofs.lemmas.List.{append_cancel_left}
use Rattle.std.proofs.lemmas.Option.{same_Some}
use Rattle.aprs_base.specs.Outside.{Told}
use Rattle.aprs_base.specs.declared.events.Event.{Event}
use Rattle.aprs_base.specs.declared.events.Event.TheVariants as event
use Rattle.aprs_base.specs.declared.events.Happening.TheVariants as did
use Rattle.aprs_base.specs.declared.events.Sent.TheVariants as sent
use Rattle.aprsc_daemon.specs.Phases.{Brings, events_in}
use Rattle.aprs_conf.specs.declared.errors.ConfFault.TheVariants as fault
use Rattle.aprs_conf.specs.declared.errors.ConfWord.TheVariants as word
use Rattle.aprsc_daemon.specs.Saying.{bad_step_text, trouble_text, listen_failed_text}
use Rattle.aprsc_daemon.specs.declared.configuring.Trouble.TheVariants as trouble
use Rattle.clap.proofs.OnLiterals.{clap_on_literals}
use Rattle.login_pass.specs.Passcode.{passcode_of}
use Rattle.aprsc_daemon.specs.Drill.{drill_setting}
use Rattle.aprsc_daemon.specs.Words.{asked_of, bare_app, check_rule, drill_of, file_rule, net_of, number_rule, script_rule, workers_rule}
use Rattle.aprsc_daemon.specs.declared.words.Task.TheVariants as task

good_words : asked_of (codes "-c" ∷ codes "aprsc.conf" ∷ []) ≡ Some (record { file = codes "aprsc.conf"; workers = 1; task = task.Serve })
unfolding clap_on_literals asked_of bare_app check_rule file_rule number_rule workers_rule
good_words = refl

all_words : asked_of (codes "-w" ∷ codes "64" ∷ codes "-c=f" ∷ codes "-y" ∷ []) ≡ Some (record { file = codes "f"; workers = 64; task = task.Check })
unfolding clap_on_literals asked_of bare_app check_rule file_rule number_rule workers_rule
all_words = refl

no_words : asked_of [] ≡ None
unfolding clap_on_literals asked_of bare_app check_rule file_rule number_rule workers_rule
no_words = refl

too_many_workers : asked_of (codes "-c" ∷ codes "c" ∷ codes "-w" ∷ codes "65" ∷ []) ≡ None
unfolding clap_on_literals asked_of bare_app check_rule file_rule number_rule workers_rule
too_many_workers = refl

two_files : asked_of (codes "-c" ∷ codes "a" ∷ codes "-c" ∷ codes "b" ∷ []) ≡ None
unfolding clap_on_literals asked_of bare_app check_rule file_rule number_rule workers_rule
two_files = refl

no_file : asked_of (codes "-y" ∷ []) ≡ None
unfolding clap_on_literals asked_of bare_app check_rule file_rule number_rule workers_rule
no_file = refl

other_mode : asked_of (codes "drill" ∷ codes "-c" ∷ codes "c" ∷ []) ≡ None
unfolding clap_on_literals asked_of
other_mode = refl

-- ---- a drill

good_drill : drill_of (codes "drill" ∷ codes "0" ∷ codes "1" ∷ codes "2" ∷ codes "-w" ∷ codes "1" ∷ []) ≡ Some (record { plan = record { seed = 0; lines = 1; links = 2 }; workers = 1 })
unfolding clap_on_literals drill_of bare_app check_rule file_rule number_rule workers_rule
good_drill = refl

largest_drill : drill_of (codes "drill" ∷ codes "1" ∷ codes "4000" ∷ codes "1000" ∷ []) ≡ Some (record { plan = record { seed = 1; lines = 4000; links = 1000 }; workers = 1 })
unfolding clap_on_literals drill_of bare_app check_rule file_rule number_rule workers_rule
largest_drill = refl

too_large_a_drill : drill_of (codes "drill" ∷ codes "1" ∷ codes "100000" ∷ codes "1000" ∷ []) ≡ None
unfolding clap_on_literals drill_of bare_app check_rule file_rule number_rule workers_rule
too_large_a_drill = refl

too_few_links : drill_of (codes "drill" ∷ codes "1" ∷ codes "1" ∷ codes "1" ∷ []) ≡ None
unfolding clap_on_literals drill_of bare_app check_rule file_rule number_rule workers_rule
too_few_links = refl

no_seed : drill_of (codes "drill" ∷ codes "x" ∷ codes "1" ∷ codes "2" ∷ []) ≡ None
unfolding clap_on_literals drill_of bare_app check_rule file_rule number_rule workers_rule
no_seed = refl

no_numbers : drill_of (codes "drill" ∷ []) ≡ None
unfolding clap_on_literals drill_of bare_app check_rule file_rule number_rule workers_rule
no_numbers = refl

another_mode : drill_of (codes "net" ∷ codes "x" ∷ []) ≡ None
unfolding drill_of
another_mode = refl

a_network : net_of (codes "net" ∷ codes "s" ∷ []) ≡ Some (record { file = codes "s" })
unfolding clap_on_literals net_of bare_app script_rule
a_network = refl

no_script : net_of (codes "net" ∷ []) ≡ None
unfolding clap_on_literals net_of bare_app script_rule
no_script = refl

two_scripts : net_of (codes "net" ∷ codes "a" ∷ codes "b" ∷ []) ≡ None
unfolding clap_on_literals net_of bare_app script_rule
two_scripts = refl

other_than_network : net_of (codes "drill" ∷ codes "x" ∷ []) ≡ None
unfolding net_of
other_than_network = refl

bad_script_line : bad_step_text (codes "s") 4 ≡ codes "s: line 4: bad step\n"
bad_script_line = let four : decimal 4 ≡ 52 ∷ [] = decimal_digit 4 (lit< tt) in rw four refl

-- the code of the drill's setting
drill_passcode : passcode_of drill_setting.server ≡ drill_setting.code
unfolding passcode_of
drill_passcode = refl

bad_line : trouble_text (codes "c") (trouble.Line 4 fault.BadKind) ≡ codes "c: line 4: bad-kind\n"
bad_line = let four : decimal 4 ≡ 52 ∷ [] = decimal_digit 4 (lit< tt) in rw four refl

missing_word : trouble_text (codes "c") (trouble.Missing word.ServerId) ≡ codes "c: missing ServerId\n"
missing_word = refl

listen_line_failed : listen_failed_text 0 ≡ codes "listen 0 failed\n"
listen_line_failed = let zero : decimal 0 ≡ 48 ∷ [] = decimal_digit 0 (lit< tt) in rw zero refl

-- ---- what a round brings

events_among_acts : events_in (did.Event (event.Tick 5) ∷ did.Sent 1 (65 ∷ []) sent.Gone ∷ did.Event event.Stop ∷ did.Closed 1 ∷ []) ≡ event.Tick 5 ∷ event.Stop ∷ []
events_among_acts = refl

-- a wire that tells no more than before brought no event
unchanged_brings_nothing : (told : Told) (events : List Event) → Brings events (Some told) (Some told) → events ≡ []
unchanged_brings_nothing told events brings =
    let same : told ≡ brings.0 = same_Some told brings.0 brings.2 in
    let none : brings.1 ≡ [] = append_cancel_left told.done brings.1 [] (sym brings.3 ∙ ap (λ t. t.done) (sym same) ∙ sym (append-nil told.done)) in
    sym brings.4 ∙ ap events_in none
