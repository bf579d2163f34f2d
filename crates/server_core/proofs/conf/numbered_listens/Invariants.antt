use Rattle.std.proofs.Common.{◌≡◌, ◌++◌, drop}
use Rattle.server_core.specs.Meaning.{numbered}
use Rattle.server_core.proofs.conf.numbered_listens.Given as goal

-- what is there so far, and the listeners that are left, make the whole
abbrev pub invariant-loop-listen : goal.invariant-loop-listen
invariant-loop-listen l = l.specs.items ++ numbered (drop l.listen-index l.listens) ≡ numbered l.listens
