use Rattle.net_schedule.specs.Running.{way_parted_at}
use Rattle.net_schedule.proofs.ListLemmas.{mapped_more}
use Rattle.net_schedule.proofs.ways.part.Goals as goal

pub loop-way-preserved : goal.loop-way-preserved
loop-way-preserved c =
    mapped_more (way_parted_at c.args.server c.args.link) c.args.ways.now c.loop-way.ways c.loop-way.way-index c.part_one.new.way c.way-item.result
    c.loop-way-test.true c.loop-way.invariant c.part_one.ensures
