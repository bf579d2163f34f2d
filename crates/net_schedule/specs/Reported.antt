-- The report of a running network.
use Rattle.std.specs.Prelude.{ℕ, List, ◌++◌, codes, length}
use Rattle.std.specs.List.{flat_map}
use Rattle.std.specs.Fmt.{decimal}
use Rattle.net_schedule.specs.Running.{ServerKept}

abbrev pub ended_by_feed : List ℕ → List ℕ
ended_by_feed line = line ++ codes "\n"

abbrev pub kept_head : ServerKept → List ℕ
kept_head kept = codes "server " ++ (kept.core.conf.server ++ (codes " accepted " ++ (decimal (length kept.accepted) ++ codes "\n")))

abbrev pub kept_report : ServerKept → List ℕ
kept_report kept = kept_head kept ++ flat_map ended_by_feed kept.accepted
