use Rattle.std.proofs.Common.{subst, sym}
use Rattle.server_core.specs.Steps.{Walks}
use Rattle.server_core.proofs.CoreLemmas.{walks_looked}
use Rattle.server_core.proofs.server.State.look.Goals as goal

pub returns-clause-walks : goal.returns-clause-walks
returns-clause-walks c = λ t walks. walks_looked _ t (subst (λ core. Walks core t) (sym c.self.view_is) walks) c.look.new.self c.look.ensures
