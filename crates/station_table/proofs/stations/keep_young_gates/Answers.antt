use Rattle.std.proofs.Common.{rules}
use Rattle.indexmap.proofs.CallerLemmas.{filter-RetainsPairs}
use Rattle.station_table.specs.Stations.{is_young_gate}
use Rattle.station_table.proofs.stations.keep_young_gates.Goals as goal

pub returns-clause-kept : goal.returns-clause-kept
returns-clause-kept c = filter-RetainsPairs _ (is_young_gate c.args.now) _ (λ k v b w g call. search rules) _ _ c.retain.ensures.filtered
