use Rattle.std.proofs.Common.{rules, ◌∙◌}
use Rattle.station_table.proofs.LastSeen.{gate_told}
use Rattle.station_table.proofs.stations.Stations.is_gate.Goals as goal

pub returns-clause-exact : goal.returns-clause-exact
returns-clause-exact c = search rules

pub returns-clause-last : goal.returns-clause-last
returns-clause-last c = λ packets agrees. returns-clause-exact c ∙ gate_told c.args.now c.args.self.now packets c.args.call.now agrees
