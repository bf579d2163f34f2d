use Rattle.std.proofs.Common.{◌≡◌, ◌≤◌, ◌++◌, List, false}
use Rattle.std.specs.List.{AllZip}
use Rattle.aprs_base.specs.Journals.{JournalLineSeen}
use Rattle.aprs_base.specs.Slots.{TakesLines}
use Rattle.aprs_history.specs.Setting.{Setting}
use Rattle.front_history.specs.Serving.{GoesOn, ports_of}
use Rattle.aprsc_daemon.specs.Fronts.{state_of}
use Rattle.server_core.specs.Meaning.{setting_of}
use Rattle.aprsc_daemon.specs.Failing.{FailsNot}
use Rattle.aprsc_daemon.specs.Phases.{Resting}
use Rattle.aprsc_daemon.proofs.serving.serve.Given as goal

abbrev pub invariant-loop : goal.invariant-loop
invariant-loop g l =
    (goal.iterator-loop g).can_next l.iterator'
    × (goal.iterator-loop g).is_finite l.iterator'
    × (l.core.conf ≡ l.initial.core.conf)
    × (l.core.seen.stopped ≡ false)
    × (l.core.seen.greatest ≤ (g.W.Wire.shown l.wire).links)
    × FailsNot (g.W.Wire.shown l.initial.wire) (g.W.Wire.shown l.wire)
    × (ports_of (state_of l.fronts) ≡ ports_of (state_of l.initial.fronts))
    × (told : List JournalLineSeen)
    × AllZip (TakesLines (λ z. (goal.Journal-dyn g z).journal_shown z.1) told) l.initial.journals.items l.journals.items
    × ((s : Setting) (lines : List JournalLineSeen) → setting_of l.initial.core.conf ≡ s
    → GoesOn s (g.W.Wire.shown l.initial.wire).told (state_of l.initial.fronts) (g.W.Wire.shown l.wire).told (state_of l.fronts) (Resting lines l.initial.core) (Resting (lines ++ told) l.core))
