use Rattle.std.proofs.Common.{List, ◌≡◌, ◌-◌, [], true, length, if◌then◌else◌}
use Rattle.std.specs.Bool.{MatchBool}
use Rattle.aprs_base.specs.Journals.{JournalLineSeen}
use Rattle.aprs_history.specs.Setting.{Setting}
use Rattle.aprs_history.specs.Rounds.{is_whole}
use Rattle.front_history.specs.Serving.{GoesOn, ports_of}
use Rattle.server_core.specs.Meaning.{CoreMeaning, setting_of}
use Rattle.aprsc_daemon.specs.Failing.{FailsNot}
use Rattle.aprsc_daemon.specs.Fronts.{state_of}
use Rattle.aprsc_daemon.specs.Phases.{BringsUp, Counted, Gathering, is_partial}
use Rattle.aprsc_daemon.proofs.serving.gather.Given as goal

abbrev pub invariant-loop-whole : goal.invariant-loop-whole
invariant-loop-whole g l =
    MatchBool l.whole (is_whole 0 l.events.items ≡ true) (is_partial 0 l.events.items ≡ true)
    × Counted (g.W.Wire.shown l.initial.wire).links l.events.items (g.W.Wire.shown l.wire).links
    × (ports_of (state_of l.fronts) ≡ ports_of (state_of l.initial.fronts))
    × BringsUp l.initial.fronts.http.at l.events.items (g.W.Wire.shown l.initial.wire).told (g.W.Wire.shown l.wire).told
    × FailsNot (g.W.Wire.shown l.initial.wire) (g.W.Wire.shown l.wire)
    × ((s : Setting) (lines : List JournalLineSeen) (core : CoreMeaning) → setting_of core.conf ≡ s → l.initial.fronts.page.totals ≡ core.seen.totals
    → GoesOn s (g.W.Wire.shown l.initial.wire).told (state_of l.initial.fronts) (g.W.Wire.shown l.wire).told (state_of l.fronts) (Gathering lines core []) (Gathering lines core l.events.items))
    × (l.fronts.page.totals ≡ l.initial.fronts.page.totals)

abbrev pub decreases-loop-whole : goal.decreases-loop-whole
decreases-loop-whole g l = if l.whole then 0 else 513 - length l.events.items
