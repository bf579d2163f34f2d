use Rattle.std.proofs.Common.{◌≡◌, ◌++◌, take}
use Rattle.std.specs.List.{flat_map}
use Rattle.net_schedule.specs.Reported.{kept_report}
use Rattle.net_schedule.proofs.report.append_all.Given as goal

abbrev pub invariant-loop-server : goal.invariant-loop-server
invariant-loop-server l = l.out.items ≡ l.initial.out.items ++ flat_map kept_report (take l.server-index l.servers)
