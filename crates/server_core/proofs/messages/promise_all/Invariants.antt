use Rattle.std.proofs.Common.{◌≡◌, drop}
use Rattle.server_core.specs.LinkSteps.{promised_all}
use Rattle.server_core.proofs.messages.promise_all.Given as goal

abbrev pub invariant-loop-link : goal.invariant-loop-link
invariant-loop-link l =
    promised_all l.links.links l.from l.sender l.now (drop l.link-index l.hearers) l.heard ≡ promised_all l.links.links l.from l.sender l.now l.hearers l.initial.heard
