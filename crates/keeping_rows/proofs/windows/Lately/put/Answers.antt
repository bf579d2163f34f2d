use Rattle.std.proofs.Common.{◌≤◌, arith}
use Rattle.dupe_window.proofs.WindowLemmas.{IsUpTo-later}
use Rattle.keeping_rows.proofs.windows.Lately.put.Goals as goal

pub offer-requires : goal.offer-requires
offer-requires c =
    let reached : c.self.inside.latest ≤ c.max-self-inside.result = grind (arith, c.max-self-inside.ensures) in
    IsUpTo-later c.self.inside.latest c.max-self-inside.result c.self.inside.window reached c.self.invariant
