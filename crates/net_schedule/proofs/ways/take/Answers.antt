use Rattle.std.specs.Option.{option_map}
use Rattle.net_schedule.specs.Running.{with_taken}
use Rattle.net_schedule.proofs.ListLemmas.{mapped_more}
use Rattle.net_schedule.proofs.ways.take.Goals as goal

pub loop-way-preserved : goal.loop-way-preserved
loop-way-preserved c =
    mapped_more (option_map (with_taken c.args.server c.args.link c.args.bytes.now)) c.args.ways.now c.loop-way.ways c.loop-way.way-index c.take_one.new.way c.way-item.result
    c.loop-way-test.true c.loop-way.invariant c.in_ok-take_one.ensures
