use Rattle.std.proofs.Common.{◌≡◌, ◌++◌, drop, map}
use Rattle.server_core.specs.Meaning.{caster, idle_specs}
use Rattle.server_core.proofs.conf.put_casters.Given as goal

-- what is there so far, and the listeners that are left, make the whole
abbrev pub invariant-loop-listen : goal.invariant-loop-listen
invariant-loop-listen l = l.specs.items ++ map caster (idle_specs (drop l.listen-index l.listens)) ≡ l.initial.specs.items ++ map caster (idle_specs l.listens)
