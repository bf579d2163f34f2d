use Rattle.aprs_base.specs.Slots.{TakesLines}
use Rattle.aprs_base.proofs.SlotLemmas.{AreOnBy}
use Rattle.aprsc_daemon.proofs.journals.tell_all.Given as goal

-- the slots so far have taken the lines, and the others are as before
abbrev pub invariant-loop-slot : goal.invariant-loop-slot
invariant-loop-slot g l = AreOnBy (TakesLines (λ z. (goal.Journal-dyn g z).journal_shown z.1) l.lines) l.slot-index l.initial.slot-items l.slot-items
