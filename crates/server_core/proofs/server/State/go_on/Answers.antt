use Rattle.std.proofs.Common.{◌≡◌, ◌≤◌, ◌<◌, ◌∙◌, ◌∷◌, ap, arith, max, subst, sym}
use Rattle.station_table.specs.Last.{HasExactly}
use Rattle.aprs_history.specs.Scenes.{accepted_of}
use Rattle.aprs_history.specs.Trace.{Ticked, moment_of}
use Rattle.server_core.specs.Meaning.{CoreMeaning}
use Rattle.server_core.specs.Steps.{Walks}
use Rattle.server_core.proofs.CoreLemmas.{max_above, max_below, on_ok_both, walks_passed, walks_stayed}
use Rattle.server_core.proofs.server.State.go_on.Goals as goal

pub returns-then-self-now-clause-walks : goal.returns-then-self-now-clause-walks
returns-then-self-now-clause-walks c = λ t walks.
    let core = c.args.self.now in
    let at : c.self.inside.moment ≡ moment_of t = ap (λ (core : CoreMeaning). core.seen.moment) c.self.view_is ∙ walks.follows.moment in
    let risen : moment_of t < c.min-now.result = subst (λ moment. moment < c.min-now.result) at c.if-self-now.true in
    let now : c.min-now.result ≡ moment_of (Ticked c.args.moment ∷ t) =
    sym (max_above c.min-now.result (moment_of t) (omega arith)) ∙ ap (λ n. max n (moment_of t)) c.min-now.ensures in
    on_ok_both c.pass.result (λ seen sights. subst (λ core. Walks core (Ticked c.args.moment ∷ t)) (sym seen)
    (walks_passed core t walks c.args.moment c.min-now.result now (sights (accepted_of t)
    (subst (λ moment. HasExactly moment core.seen.stations (accepted_of t)) (sym walks.follows.moment) walks.follows.tables.stations))))
    c.pass.ensures.seen c.pass.ensures.sights

pub returns-else-self-now-clause-walks : goal.returns-else-self-now-clause-walks
returns-else-self-now-clause-walks c = λ t walks.
    let at : c.self.inside.moment ≡ moment_of t = ap (λ (core : CoreMeaning). core.seen.moment) c.self.view_is ∙ walks.follows.moment in
    let stays : c.min-now.result ≤ moment_of t = subst (λ moment. c.min-now.result ≤ moment) at c.if-self-now.false in
    walks_stayed c.args.self.now t walks c.args.moment (ap (λ n. max n (moment_of t)) (sym c.min-now.ensures) ∙ max_below c.min-now.result (moment_of t) stays)
