use Rattle.std.proofs.Common.{◌≡◌, ◌+◌, ◌++◌, false, ℕ, List, [], length}
use Rattle.aprs_base.specs.Journals.{JournalLineSeen}
use Rattle.aprs_history.specs.Setting.{Setting}
use Rattle.aprs_history.specs.Trace.{is_member}
use Rattle.aprs_history.specs.Downs.{whole_lines}
use Rattle.front_history.specs.Serving.{SendsOn}
use Rattle.server_core.specs.Meaning.{CoreMeaning, setting_of}
use Rattle.server_core.specs.Sending.{bytes_in}
use Rattle.aprsc_daemon.specs.Failing.{FailsNot}
use Rattle.aprsc_daemon.specs.Phases.{Brings, Sending}
use Rattle.aprsc_daemon.proofs.serving.cast_lines.Given as goal

-- these lines are cast, and what is left has the others
abbrev pub invariant-loop-line : goal.invariant-loop-line
invariant-loop-line g l =
    FailsNot (g.W.Wire.shown l.initial.wire) (g.W.Wire.shown l.wire)
    × ((g.W.Wire.shown l.wire).links ≡ (g.W.Wire.shown l.initial.wire).links)
    × Brings [] (g.W.Wire.shown l.initial.wire).told (g.W.Wire.shown l.wire).told
    × (l.fronts.http ≡ l.initial.fronts.http)
    × (l.fronts.page.at ≡ l.initial.fronts.page.at)
    × ((cast : List (List ℕ)) × (whole_lines l.bytes ≡ cast ++ whole_lines l.rest) × (bytes_in cast + length l.rest ≡ length l.bytes)
    × ((s : Setting) (lines : List JournalLineSeen) (core : CoreMeaning) (link : ℕ) (offers closes : List ℕ) → setting_of core.conf ≡ s → is_member link offers ≡ false
    → SendsOn s (g.W.Wire.shown l.initial.wire).told l.initial.fronts.page (g.W.Wire.shown l.wire).told l.fronts.page
    (Sending lines core link l.down [] (whole_lines l.bytes) offers closes) (Sending lines core link l.down cast (whole_lines l.rest) offers closes)))

abbrev pub decreases-loop-line : goal.decreases-loop-line
decreases-loop-line g l = length l.rest
