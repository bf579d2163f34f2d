use Rattle.std.proofs.Common.{List, ap, subst, sym, ◌≡◌, ◌∙◌}
use Rattle.std.proofs.lemmas.Result.{on_ok_weaker}
use Rattle.aprs_base.specs.Journals.{JournalLineSeen}
use Rattle.aprs_conf.specs.Seen.{ConfSeen}
use Rattle.aprs_history.specs.History.{end_each, end_round, end_stopped, refused_links, refused_reason}
use Rattle.aprs_history.specs.Trace.{Trace}
use Rattle.server_core.specs.Meaning.{CoreMeaning, setting_of}
use Rattle.server_core.specs.Steps.{Walks}
use Rattle.server_core.specs.Telling.{Tells}
use Rattle.server_core.proofs.TellingLemmas.{tells_then}
use Rattle.server_core.proofs.server.State.finish.Goals as goal

abbrev refused_ends : ConfSeen → Trace → Trace
refused_ends conf t = end_each (refused_reason t) (refused_links (setting_of conf) t) t

-- what is told of the links that are refused, and then of those that a stop ends
tells_ended : (t : Trace) (now rested refused : CoreMeaning) (first second third : List JournalLineSeen) → rested.conf ≡ now.conf → refused.conf ≡ now.conf → refused.seen.stopped ≡ now.seen.stopped
    → Tells (setting_of rested.conf) t (refused_ends rested.conf t) first second
    → Tells (setting_of refused.conf) (refused_ends rested.conf t) (end_stopped refused.seen.stopped (refused_ends rested.conf t)) second third
    → Tells (setting_of now.conf) t (end_round (setting_of now.conf) now.seen.stopped t) first third
tells_ended t now rested refused first second third conf same stops one other =
    let s = setting_of now.conf in
    let last : Trace → Trace = end_stopped refused.seen.stopped in
    tells_then s t (refused_ends now.conf t) (end_stopped now.seen.stopped (refused_ends now.conf t)) first second third
    (subst (λ (c : ConfSeen). Tells (setting_of c) t (refused_ends c t) first second) conf one)
    (subst (λ b. Tells s (refused_ends now.conf t) (end_stopped b (refused_ends now.conf t)) second third) stops
    (subst (λ (c : ConfSeen). Tells s (refused_ends c t) (last (refused_ends c t)) second third) conf
    (subst (λ (c : ConfSeen). Tells (setting_of c) (refused_ends rested.conf t) (last (refused_ends rested.conf t)) second third) same other)))

pub returns-clause-tells : goal.returns-clause-tells
returns-clause-tells g c = λ t walks known.
    let now = c.args.self.now in
    let rested = c.rest.new.self in
    let refused = c.end_refused.new.self in
    let went = c.in_ok-rest.ensures in
    let ends = c.in_ok-end_refused.ensures in
    let kept : Walks rested t = went.walks t (subst (λ (core : CoreMeaning). Walks core t) (sym c.in_ok-let_walked_go.ensures) walks) in
    let conf : rested.conf ≡ now.conf = went.rest.conf ∙ ap (λ (core : CoreMeaning). core.conf) c.in_ok-let_walked_go.ensures in
    let stops : refused.seen.stopped ≡ now.seen.stopped = ends.rest.stopped ∙ went.rest.stopped ∙ ap (λ (core : CoreMeaning). core.seen.stopped) c.in_ok-let_walked_go.ensures in
    on_ok_weaker c.end_stopped.result
    (tells_ended t now rested refused c.args.lines.now.items c.end_refused.new.lines.items c.end_stopped.new.lines.items conf (ends.rest.conf ∙ conf) stops (ends.tells t kept known))
    (c.end_stopped.ensures.tells (refused_ends rested.conf t) (ends.walks t kept))
