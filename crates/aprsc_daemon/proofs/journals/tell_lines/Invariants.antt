use Rattle.std.proofs.Common.{take}
use Rattle.aprs_base.specs.Slots.{TakesLines}
use Rattle.aprsc_daemon.proofs.journals.tell_lines.Given as goal

-- the slot has taken the lines so far
abbrev pub invariant-loop-line : goal.invariant-loop-line
invariant-loop-line g l = TakesLines (λ z. (goal.Journal-dyn g z).journal_shown z.1) (take l.line-index l.lines) l.initial.slot l.slot
