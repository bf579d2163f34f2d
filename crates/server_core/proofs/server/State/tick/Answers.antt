use Rattle.std.proofs.Common.{◌≡◌, ◌∷◌, subst, ap, ◌∙◌}
use Rattle.aprs_conf.specs.Seen.{ConfSeen}
use Rattle.aprs_history.specs.History.{dated, end_each}
use Rattle.aprs_history.specs.Links.{late_links, late_reason}
use Rattle.aprs_history.specs.Trace.{Looked, Ticked, moment_of}
use Rattle.server_core.specs.Meaning.{CoreMeaning, setting_of}
use Rattle.server_core.specs.Steps.{Walks}
use Rattle.server_core.specs.Telling.{Tells}
use Rattle.server_core.proofs.TellingLemmas.{tells_tick}
use Rattle.server_core.proofs.server.State.tick.Goals as goal

pub returns-clause-walks : goal.returns-clause-walks
returns-clause-walks c = λ t walks.
    let now = Ticked c.args.moment ∷ t in
    let ended = c.in_ok-end_late.ensures.walks now (c.in_ok-go_on.ensures.walks t walks) in
    let before : c.self.inside.moment ≡ moment_of t = ap (λ (core : CoreMeaning). core.seen.moment) c.self.view_is ∙ walks.follows.moment in
    let told = c.in_ok-send_date.ensures.walks _ ended in
    subst (λ (conf : ConfSeen). Walks c.look.new.self (Looked ∷ dated (moment_of t) (end_each (late_reason now) (late_links (setting_of conf) now) now))) c.in_ok-go_on.ensures.rest.conf
    (subst (λ m. Walks c.look.new.self (Looked ∷ dated m (end_each (late_reason now) (late_links (setting_of c.go_on.new.self.conf) now) now))) before
    (c.look.ensures.walks _ told))

pub returns-clause-tells : goal.returns-clause-tells
returns-clause-tells c = λ t walks.
    let now = Ticked c.args.moment ∷ t in
    tells_tick (setting_of c.args.self.now.conf) c.args.moment t c.args.lines.now.items c.end_late.new.lines.items
    (subst (λ (conf : ConfSeen). Tells (setting_of conf) now (end_each (late_reason now) (late_links (setting_of conf) now) now) c.args.lines.now.items c.end_late.new.lines.items) c.in_ok-go_on.ensures.rest.conf
    (c.in_ok-end_late.ensures.tells now (c.in_ok-go_on.ensures.walks t walks)))
