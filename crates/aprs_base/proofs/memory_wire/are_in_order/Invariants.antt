use Rattle.std.proofs.Common.{◌≡◌, drop}
use Rattle.aprs_base.specs.Outside.{are_numbered}
use Rattle.aprs_base.proofs.memory_wire.are_in_order.Given as goal

abbrev pub invariant-loop-event : goal.invariant-loop-event
invariant-loop-event l = are_numbered l.links (drop l.event-index l.events) ≡ are_numbered 0 l.events
