use Rattle.std.proofs.Common.{subst, sym, true}
use Rattle.server_core.specs.Steps.{Walks}
use Rattle.server_core.proofs.CoreLemmas.{walks_resting}
use Rattle.server_core.proofs.server.State.rest.Goals as goal

pub returns-clause-walks : goal.returns-clause-walks
returns-clause-walks g c = λ t walks.
    rw c.rest.ensures (rw c.in_ok-settle.ensures.ok (walks_resting _ t true (subst (λ core. Walks core t) (sym c.self.view_is) walks)))
