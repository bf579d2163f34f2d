use Rattle.std.proofs.Common.{◌≡◌, drop}
use Rattle.server_core.specs.LinkSteps.{forgotten_all}
use Rattle.server_core.proofs.messages.forget_all.Given as goal

abbrev pub invariant-loop-link : goal.invariant-loop-link
invariant-loop-link l = forgotten_all (drop l.link-index l.links) l.heard ≡ forgotten_all l.links l.initial.heard
