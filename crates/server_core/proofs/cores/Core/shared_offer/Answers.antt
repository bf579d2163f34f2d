use Rattle.std.proofs.Common.{IfSome, take, subst, ◌≡◌}
use Rattle.server_core.specs.LinkSteps.{pending_at}
use Rattle.server_core.specs.Meaning.{CoreMeaning, setting_of}
use Rattle.aprs_history.specs.History.{trace_of}
use Rattle.server_core.proofs.SendLemmas.{pending_now}
use Rattle.server_core.proofs.cores.Core.shared_offer.Goals as goal

pub returns-clause-next : goal.returns-clause-next
returns-clause-next c = λ h stands.
    let s = setting_of c.args.self.now.conf in
    let bytes = subst (λ (core : CoreMeaning). IfSome c.shared_offer.result (λ bytes. bytes.now ≡ take 65536 (pending_at c.args.link core.seen.links))) c.self.view_is c.shared_offer.ensures in
    subst (λ left. IfSome c.shared_offer.result (λ bytes. bytes.now ≡ take 65536 left)) (pending_now s c.args.self.now.seen (trace_of s h) stands.follows c.args.link c.requires.served) bytes
