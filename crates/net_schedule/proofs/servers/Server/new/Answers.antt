use Rattle.std.proofs.Common.{ap, map}
use Rattle.std.specs.Arc.{arc_value}
use Rattle.net_schedule.proofs.KeepLemmas.{new_keeps, none_cast_from}
use Rattle.net_schedule.proofs.servers.Server.new.Goals as goal

pub returns-clause-keeps : goal.returns-clause-keeps
returns-clause-keeps c =
    new_keeps c.in_ok-new.field-0 c.args.conf c.in_ok-listens.listens.items c.new-2.result.items c.new-3.result.items c.new-4.result.items (map arc_value c.new-5.result.items) (map arc_value c.new-6.result.items)
    c.in_ok-new.ensures.conf (none_cast_from c.args.conf c.requires.busy) c.in_ok-new.ensures.stands c.in_ok-listens.ensures c.new-2.ensures.items c.new-3.ensures.items c.new-4.ensures.items (ap (map arc_value) c.new-5.ensures.items) (ap (map arc_value) c.new-6.ensures.items)
