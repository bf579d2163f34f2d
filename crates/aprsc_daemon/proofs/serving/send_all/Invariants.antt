use Rattle.std.proofs.Common.{◌≡◌, [], drop, List, ℕ, length}
use Rattle.aprs_base.specs.Journals.{JournalLineSeen}
use Rattle.aprs_history.specs.Setting.{Setting}
use Rattle.front_history.specs.Serving.{SendsOn}
use Rattle.server_core.specs.LinkSteps.{numbers}
use Rattle.server_core.specs.Meaning.{setting_of}
use Rattle.server_core.specs.Steps.{SameRest}
use Rattle.aprsc_daemon.specs.Failing.{FailsNot}
use Rattle.aprsc_daemon.specs.Phases.{Brings, Offering}
use Rattle.aprsc_daemon.proofs.serving.send_all.Given as goal

abbrev pub invariant-loop-link : goal.invariant-loop-link
invariant-loop-link g l =
    SameRest l.initial.core l.core
    × (numbers l.core.seen.links ≡ numbers l.initial.core.seen.links)
    × FailsNot (g.W.Wire.shown l.initial.wire) (g.W.Wire.shown l.wire)
    × ((g.W.Wire.shown l.wire).links ≡ (g.W.Wire.shown l.initial.wire).links)
    × Brings [] (g.W.Wire.shown l.initial.wire).told (g.W.Wire.shown l.wire).told
    × (length l.buffer ≡ 65536)
    × (l.fronts.http ≡ l.initial.fronts.http)
    × (l.fronts.page.at ≡ l.initial.fronts.page.at)
    × ((s : Setting) (lines : List JournalLineSeen) (closes : List ℕ) → setting_of l.initial.core.conf ≡ s
    → SendsOn s (g.W.Wire.shown l.initial.wire).told l.initial.fronts.page (g.W.Wire.shown l.wire).told l.fronts.page (Offering lines l.initial.core l.offers closes) (Offering lines l.core (drop l.link-index l.offers) closes))
