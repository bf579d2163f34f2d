use Rattle.std.proofs.Common.{List, ◌≡◌, [], drop}
use Rattle.aprs_base.specs.Journals.{JournalLineSeen}
use Rattle.aprs_history.specs.Setting.{Setting}
use Rattle.front_history.specs.Serving.{ActsOn}
use Rattle.server_core.specs.Meaning.{CoreMeaning, setting_of}
use Rattle.aprsc_daemon.specs.Failing.{FailsNot}
use Rattle.aprsc_daemon.specs.Phases.{Brings, Offering}
use Rattle.aprsc_daemon.proofs.serving.close_all.Given as goal

abbrev pub invariant-loop-link : goal.invariant-loop-link
invariant-loop-link g l =
    FailsNot (g.W.Wire.shown l.initial.wire) (g.W.Wire.shown l.wire)
    × ((g.W.Wire.shown l.wire).links ≡ (g.W.Wire.shown l.initial.wire).links)
    × Brings [] (g.W.Wire.shown l.initial.wire).told (g.W.Wire.shown l.wire).told
    × ((s : Setting) (lines : List JournalLineSeen) (core : CoreMeaning) → setting_of core.conf ≡ s
    → ActsOn s (g.W.Wire.shown l.initial.wire).told (g.W.Wire.shown l.wire).told (Offering lines core [] l.closes) (Offering lines core [] (drop l.link-index l.closes)))
