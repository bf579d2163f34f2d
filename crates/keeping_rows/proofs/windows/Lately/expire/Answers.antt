use Rattle.std.proofs.Common.{subst, sym}
use Rattle.dupe_window.specs.Windows.{IsUpTo}
use Rattle.dupe_window.proofs.WindowLemmas.{IsUpTo-expired}
use Rattle.keeping_rows.proofs.windows.Lately.expire.Goals as goal

pub invariant_of-self : goal.invariant_of-self
invariant_of-self c =
    subst (IsUpTo c.self.inside.latest) (sym c.expire.ensures)
    (IsUpTo-expired c.self.inside.latest c.args.now c.self.inside.window c.self.invariant)
