use Rattle.std.proofs.Common.{◌≡◌, ◌∙◌, ◌++◌, Err, Some, ap, inl, inr, refl, subst, sym}
use Rattle.aprs_base.specs.declared.files.FileError.TheVariants as file_error
use Rattle.aprs_base.specs.Stores.{Holds, place_named}
use Rattle.aprsc_daemon.specs.declared.program.Status.TheVariants as status
use Rattle.aprsc_daemon.specs.Saying.{too_large_text, unread_text}
use Rattle.aprsc_daemon.proofs.CauseLemmas.{fails_read, memory_cause, off_script_cause, read_as, too_large_script, unread_cause}
use Rattle.aprsc_daemon.proofs.program.run_net.Goals as goal

pub returns-in-Err-Big : goal.returns-in-Err-Big
returns-in-Err-Big g c = λ words wire named.
    let big = c.in-Err-Big.ensures.big (ap Err c.in-Err-Big.field-0-is) in
    let text = too_large_text c.asked.inside.file.now in
    let asks = named ∙ ap Some (sym c.asked.view_is) in
    off_script_cause _ _ big.0 text c.say_made.result asks big.1 (inl (too_large_script big.0 big.2, refl)) refl
    (let read = read_as c.in-Err-Big.field-0 file_error.Big c.in-Err-Big.field-0-is c.in-Err-Big.ensures in
    fails_read _ _ status.BadFile (inr (_, asks, refl)) read.told read.last read.reads read.faults refl refl) (c.say_made.ensures text c.too_large.ensures)

pub returns-in-Err-Failed : goal.returns-in-Err-Failed
returns-in-Err-Failed g c = λ words wire named.
    let text = unread_text c.asked.inside.file.now in
    let asks = named ∙ ap Some (sym c.asked.view_is) in
    unread_cause _ _ c.say_made-in-Err-Failed.result (inr (_, asks, refl)) refl
    (let read = read_as c.in-Err-Failed.field-0 file_error.Failed c.in-Err-Failed.field-0-is c.in-Err-Failed.ensures in
    fails_read _ _ status.UnreadFile (inr (_, asks, refl)) read.told read.last read.reads read.faults refl refl) (c.say_made-in-Err-Failed.ensures text c.unread.ensures)

pub returns : goal.returns
returns g c = λ words wire named.
    let read = read_as c.in-Err-Memory.field-0 file_error.Memory c.in-Err-Memory.field-0-is c.in-Err-Memory.ensures in
    memory_cause _ refl (inl refl) (record { file = inl (read.told, read.last, read.reads); reads = read.faults; listens = refl; nexts = refl })

pub returns-in-Ok : goal.returns-in-Ok
returns-in-Ok g c = λ words wire named.
    let found = c.in-Ok.ensures.ok in
    let text : c.as_slice.result.now ≡ found.0 = c.as_slice.ensures.value ∙ found.3 ∙ ap (λ front. front ++ found.0) c.new-script.ensures.items in
    c.run_script.ensures words (g.F.Files.shown c.args.files.now) (g.F.Files.shown c.read.new.self) wire named
    (subst (λ bytes. Holds (g.F.Files.shown c.args.files.now).told c.args.asked.now.file bytes) (sym text) (subst (λ asked. Holds (g.F.Files.shown c.args.files.now).told asked.file found.0) c.asked.view_is found.1))
    (inr (c.args.asked.now.file, inr (c.args.asked.now, named, refl), (c.in-Ok.ensures.told, c.in-Ok.ensures.last ∙ ap (λ asked. place_named asked.file (g.F.Files.shown c.args.files.now).told) c.asked.view_is, c.in-Ok.ensures.reads)), c.in-Ok.ensures.faults)
