use Rattle.std.proofs.Common.{◌∙◌}
use Rattle.aprs_conf.specs.Writing.{uplink_line}
use Rattle.aprs_conf.proofs.PushLemmas.{line_put}
use Rattle.aprs_conf.proofs.writing.ConfText.uplinks.Goals as goal

pub loop-uplink-preserved : goal.loop-uplink-preserved
loop-uplink-preserved c =
    line_put uplink_line c.loop-uplink.self c.uplink.new.self c.args.uplinks.now c.loop-uplink.uplink-index c.uplink-item.result c.loop-uplink-test.true c.uplink-item.is c.in_ok-uplink.ensures
    ∙ c.loop-uplink.invariant
