use Rattle.std.proofs.Common.{◌≡◌, ℕ, List, None, [], drop}
use Rattle.aprs_base.specs.Journals.{JournalLineSeen}
use Rattle.aprs_history.specs.Setting.{Setting}
use Rattle.front_history.specs.Serving.{SendsOn}
use Rattle.server_core.specs.Meaning.{CoreMeaning, setting_of}
use Rattle.aprsc_daemon.specs.Failing.{FailsNot}
use Rattle.aprsc_daemon.specs.Phases.{Acting, Brings}
use Rattle.aprsc_daemon.proofs.serving.cast_all.Given as goal

abbrev pub invariant-loop-cast : goal.invariant-loop-cast
invariant-loop-cast g l =
    FailsNot (g.W.Wire.shown l.initial.wire) (g.W.Wire.shown l.wire)
    × ((g.W.Wire.shown l.wire).links ≡ (g.W.Wire.shown l.initial.wire).links)
    × Brings [] (g.W.Wire.shown l.initial.wire).told (g.W.Wire.shown l.wire).told
    × (l.fronts.http ≡ l.initial.fronts.http)
    × (l.fronts.page.at ≡ l.initial.fronts.page.at)
    × ((s : Setting) (lines : List JournalLineSeen) (core : CoreMeaning) (offers closes : List ℕ) → setting_of core.conf ≡ s → core.conf.peers ≡ l.peers
    → SendsOn s (g.W.Wire.shown l.initial.wire).told l.initial.fronts.page (g.W.Wire.shown l.wire).told l.fronts.page (Acting lines core None l.casts offers closes) (Acting lines core None (drop l.cast-index l.casts) offers closes))
