use Rattle.std.proofs.Common.{◌≡◌, ◌++◌, drop, map}
use Rattle.std.specs.List.{flat_map}
use Rattle.aprs_conf.specs.Writing.{line_text, listen_line}
use Rattle.aprs_conf.proofs.writing.ConfText.listens.Given as goal

-- what was written and what is left are the whole
abbrev pub invariant-loop-listen : goal.invariant-loop-listen
invariant-loop-listen l = l.self ++ flat_map line_text (map listen_line (drop l.listen-index l.listens)) ≡ l.initial.self ++ flat_map line_text (map listen_line l.listens)
