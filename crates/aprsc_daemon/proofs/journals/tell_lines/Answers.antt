use Rattle.std.proofs.Common.{◌∙◌, ◌++◌, ◌∷◌, [], ap, sym, take}
use Rattle.std.proofs.lemmas.Fn.{FoldsTo-push}
use Rattle.std.proofs.lemmas.List.{take_more}
use Rattle.aprs_base.specs.Slots.{TakesLine}
use Rattle.aprsc_daemon.proofs.journals.tell_lines.Goals as goal

pub loop-line-preserved : goal.loop-line-preserved
loop-line-preserved g c =
    let lines = c.args.lines.now in
    let so_far = take c.loop-line.line-index lines in
    let more = take_more lines c.loop-line.line-index c.line-item.result c.loop-line-test.true in
    rw (more ∙ ap (λ line. so_far ++ line ∷ []) (sym c.line-item.is))
    (FoldsTo-push (TakesLine (λ z. (goal.Journal-dyn g z).journal_shown z.1)) c.args.slot.now so_far c.loop-line.slot c.line-item.result c.tell.new.slot c.loop-line.invariant c.tell.ensures)
