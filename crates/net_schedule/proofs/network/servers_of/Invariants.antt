use Rattle.std.proofs.Common.{◌≡◌, ◌++◌}
use Rattle.std.specs.Vec.Iter.{into_iter_items}
use Rattle.net_schedule.specs.Networks.{AreNew}
use Rattle.net_schedule.proofs.network.servers_of.Given as goal

abbrev pub invariant-loop-conf : goal.invariant-loop-conf
invariant-loop-conf l =
    (goal.iterator-loop-conf).can_next l.conf-iterator
    × (goal.iterator-loop-conf).is_finite l.conf-iterator
    × (l.yielded ++ into_iter_items l.conf-iterator ≡ into_iter_items l.initial.conf-iterator)
    × AreNew l.yielded l.servers.items
