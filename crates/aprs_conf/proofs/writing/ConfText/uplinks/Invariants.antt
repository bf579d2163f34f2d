use Rattle.std.proofs.Common.{◌≡◌, ◌++◌, drop, map}
use Rattle.std.specs.List.{flat_map}
use Rattle.aprs_conf.specs.Writing.{line_text, uplink_line}
use Rattle.aprs_conf.proofs.writing.ConfText.uplinks.Given as goal

-- what was written and what is left are the whole
abbrev pub invariant-loop-uplink : goal.invariant-loop-uplink
invariant-loop-uplink l = l.self ++ flat_map line_text (map uplink_line (drop l.uplink-index l.uplinks)) ≡ l.initial.self ++ flat_map line_text (map uplink_line l.uplinks)
