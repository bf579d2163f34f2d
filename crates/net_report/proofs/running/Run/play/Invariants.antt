use Rattle.std.proofs.Common.{◌≡◌, ◌++◌, false}
use Rattle.std.specs.Vec.Iter.{into_iter_items}
use Rattle.net_schedule.specs.Running.{layout_of}
use Rattle.net_script.specs.Running.{progress_of}
use Rattle.net_report.specs.Told.{HasCome}
use Rattle.net_report.proofs.running.Run.play.Given as goal

-- the script has come as far as the lines so far say
abbrev pub invariant-loop-line : goal.invariant-loop-line
invariant-loop-line g l =
    (goal.iterator-loop-line g).can_next l.line-iterator
    × (goal.iterator-loop-line g).is_finite l.line-iterator
    × (l.yielded ++ into_iter_items l.line-iterator ≡ into_iter_items l.initial.line-iterator)
    × (layout_of l.self.network ≡ layout_of l.initial.self.network)
    × (l.self.network.spent ≡ false)
    × HasCome l.self (progress_of (layout_of l.initial.self.network) l.yielded)
