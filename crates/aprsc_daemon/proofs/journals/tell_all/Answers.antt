use Rattle.std.proofs.Common.{◌∙◌, ap, sym, length}
use Rattle.aprs_base.specs.Slots.{TakesLines}
use Rattle.aprs_base.proofs.SlotLemmas.{all_written, one_more_on}
use Rattle.aprsc_daemon.proofs.journals.tell_all.Goals as goal

pub loop-slot-preserved : goal.loop-slot-preserved
loop-slot-preserved g c =
    one_more_on (TakesLines (λ z. (goal.Journal-dyn g z).journal_shown z.1) c.args.lines.now) c.loop-slot.slot-index c.deref_mut-slot-items.result.now c.loop-slot.slot-items c.tell_lines.new.slot c.slot-item.result
    c.loop-slot-test.true c.loop-slot.invariant c.tell_lines.ensures

pub returns : goal.returns
returns g c =
    let given = c.deref_mut-slot-items.ensures in
    all_written (TakesLines (λ z. (goal.Journal-dyn g z).journal_shown z.1) c.args.lines.now) c.args.journals.now.len c.loop-slot.slot-index c.args.journals.now.items c.deref_mut-slot-items.result.now c.loop-slot.slot-items
    given.value (sym given.len ∙ ap length given.value) c.loop-slot.auto.slot-items c.loop-slot-test.false c.loop-slot.auto.slot-index-end c.loop-slot.invariant
