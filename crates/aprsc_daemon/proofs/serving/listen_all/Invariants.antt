use Rattle.std.proofs.Common.{◌≡◌}
use Rattle.aprs_history.specs.Setting.{Setting}
use Rattle.front_history.specs.Serving.{Opens}
use Rattle.aprsc_daemon.specs.Failing.{FailsNot}
use Rattle.aprsc_daemon.specs.Phases.{Listening}
use Rattle.aprsc_daemon.proofs.serving.listen_all.Given as goal

abbrev pub invariant-loop-spec : goal.invariant-loop-spec
invariant-loop-spec g l =
    (l.n ≡ l.spec-index)
    × FailsNot (g.W.Wire.shown l.initial.wire) (g.W.Wire.shown l.wire)
    × (l.fronts ≡ l.initial.fronts)
    × ((s : Setting) → s.listens ≡ l.listens → Opens s l.initial.fronts.page l.initial.fronts.http (g.W.Wire.shown l.initial.wire).told (g.W.Wire.shown l.wire).told (Listening s l.n))
