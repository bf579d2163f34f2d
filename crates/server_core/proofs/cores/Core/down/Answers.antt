use Rattle.std.proofs.Common.{ap, ◌∙◌}
use Rattle.aprs_history.specs.History.{trace_of}
use Rattle.served_links.specs.Links.{down_at}
use Rattle.server_core.specs.Meaning.{CoreMeaning, setting_of}
use Rattle.server_core.proofs.SendLemmas.{down_now}
use Rattle.server_core.proofs.cores.Core.down.Goals as goal

pub returns-clause-same : goal.returns-clause-same
returns-clause-same c = λ h stands here.
    let core = c.args.self.now in
    let s = setting_of core.conf in
    c.down.ensures ∙ ap (λ (core : CoreMeaning). down_at c.args.link core.seen.links) c.self.view_is ∙ down_now s core.seen (trace_of s h) stands.follows c.args.link here
