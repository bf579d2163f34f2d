use Rattle.std.proofs.Common.{Err, Result, ℕ, zero}
use Rattle.std.specs.Prelude.{⊤}
use Rattle.served_links.proofs.ServedSteps.{emptied, settled_are}
use Rattle.served_links.proofs.served.Served.give_up.Goals as goal

-- as after a call that fails
abbrev failed : Result ⊤ ℕ
failed = Err zero

pub invariant_of-self : goal.invariant_of-self
invariant_of-self c = settled_are failed c.self.inside c.clear.new.self c.clear-2.new.self c.self.invariant.0 tt tt (c.clear.ensures, c.clear-2.ensures) c.self.invariant.1

pub returns : goal.returns
returns c = emptied failed c.self.inside c.clear.new.self c.clear-2.new.self c.self.view_is (c.clear.ensures, c.clear-2.ensures)
