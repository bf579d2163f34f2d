use Rattle.std.proofs.Common.{◌∷◌, ◌++◌, [], sym, ap, ◌∙◌}
use Rattle.aprs_history.specs.Journal.{unjoined_lines}
use Rattle.server_core.specs.Meaning.{CoreMeaning}
use Rattle.server_core.proofs.TellingLemmas.{dialled_lines}
use Rattle.server_core.proofs.server.State.tell_unjoined.Goals as goal

pub returns-in_ok-push : goal.returns-in_ok-push
returns-in_ok-push c =
    let old = c.args.lines.now.items in
    c.in_ok-push.ensures.items
    ∙ ap (λ line. old ++ line ∷ []) c.unjoined_line.ensures
    ∙ ap (λ lines. old ++ lines) (dialled_lines _ c.self.inside.moment c.args.uplink (sym c.is_dialled.ensures ∙ c.if-is_dialled.true))
    ∙ ap (λ (core : CoreMeaning). old ++ unjoined_lines core.seen.reach.uplinks.dialled core.seen.moment c.args.uplink) c.self.view_is
