use Rattle.std.specs.List.{flat_map}
use Rattle.std.proofs.Common.{take}
use Rattle.net_schedule.specs.Reported.{kept_report}
use Rattle.net_schedule.proofs.ListLemmas.{kept_shorter}
use Rattle.net_schedule.proofs.report.append_all.Goals as goal

pub returns-in_err-append_server-clause-kept : goal.returns-in_err-append_server-clause-kept
returns-in_err-append_server-clause-kept c =
    kept_shorter c.append_server.new.out.items c.loop-server.out.items c.args.out.now.items (flat_map kept_report (take c.loop-server.server-index c.args.servers.now)) c.append_server.ensures.kept c.loop-server.invariant
