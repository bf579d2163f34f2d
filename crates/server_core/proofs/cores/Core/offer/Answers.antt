use Rattle.std.proofs.Common.{take, min, length, ap, ◌∙◌}
use Rattle.server_core.specs.LinkSteps.{pending_at}
use Rattle.server_core.specs.Meaning.{CoreMeaning, setting_of}
use Rattle.aprs_history.specs.History.{trace_of}
use Rattle.server_core.proofs.SendLemmas.{pending_now}
use Rattle.server_core.proofs.cores.Core.offer.Goals as goal

pub returns-clause-next : goal.returns-clause-next
returns-clause-next c = λ h stands.
    let s = setting_of c.args.self.now.conf in
    let room = min (length c.args.out.now) 65536 in
    c.offer.ensures.bytes
    ∙ ap (λ (core : CoreMeaning). take room (pending_at c.args.link core.seen.links)) c.self.view_is
    ∙ ap (take room) (pending_now s c.args.self.now.seen (trace_of s h) stands.follows c.args.link c.requires.served)
