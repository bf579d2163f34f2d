use Rattle.std.proofs.Common.{rules}
use Rattle.heard_routing.proofs.HeardLemmas.{hearers_listed}
use Rattle.heard_routing.proofs.heard.Heard.receivers.Goals as goal

pub returns-clause-links : goal.returns-clause-links
returns-clause-links c = search rules

pub returns-clause-last : goal.returns-clause-last
returns-clause-last c = λ lives packets agrees. hearers_listed c.args.now lives c.args.self.now packets c.args.to.now _ agrees (returns-clause-links c)
