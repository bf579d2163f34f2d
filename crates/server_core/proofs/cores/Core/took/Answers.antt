use Rattle.std.proofs.Common.{◌∷◌, ap, subst, sym, ◌∙◌}
use Rattle.served_links.specs.Links.{down_at}
use Rattle.aprs_history.specs.History.{trace_of}
use Rattle.aprs_history.specs.Wired.{on_wire}
use Rattle.server_core.specs.Meaning.{CoreMeaning, Stands, setting_of}
use Rattle.server_core.specs.Sending.{with_casts, with_lines}
use Rattle.server_core.proofs.SendLemmas.{down_here, lines_shown}
use Rattle.server_core.proofs.cores.Core.took.Goals as goal

pub returns-clause-sends : goal.returns-clause-sends
returns-clause-sends c = λ h down line lines is total stands.
    c.took.ensures.sends h down line lines (ap (λ (core : CoreMeaning). down_at c.args.link core.seen.links) c.self.view_is ∙ is) total (subst (λ core. Stands core h) (sym c.self.view_is) stands)

pub returns-clause-casts : goal.returns-clause-casts
returns-clause-casts c = λ wired down line lines is total stands.
    let core = c.args.self.now in
    let same = c.took.ensures.rest.conf ∙ ap (λ (core : CoreMeaning). core.conf) c.self.view_is in
    let h = stands.0 in
    let before = stands.1 in
    let downs = down_here (setting_of core.conf) core.seen (trace_of (setting_of core.conf) h) before.follows c.args.link down is in (
      with_lines c.args.link (line ∷ lines) h,
      returns-clause-sends c h down line lines is total before,
      ap (λ conf. on_wire (setting_of conf) (with_lines c.args.link (line ∷ lines) h)) same
          ∙ lines_shown (setting_of core.conf) c.args.link down (line ∷ lines) h downs
          ∙ ap (with_casts down.number (line ∷ lines)) stands.2,
    )
