use Rattle.std.proofs.Common.{map, refl, ◌/◌, subst, sym, ap, ◌∙◌}
use Rattle.std.proofs.lemmas.Bool.{lt-ltb}
use Rattle.std.specs.Arc.{arc_value}
use Rattle.aprs_history.specs.Dates.{comment_text}
use Rattle.aprs_history.specs.History.{comment_seconds}
use Rattle.served_links.specs.Changes.{with_date}
use Rattle.server_core.specs.Steps.{Walks}
use Rattle.server_core.proofs.CoreLemmas.{walks_dated}
use Rattle.server_core.proofs.server.State.send_date.Goals as goal

pub returns-in_ok-tell_all-clause-walks : goal.returns-in_ok-tell_all-clause-walks
returns-in_ok-tell_all-clause-walks c = λ t walks.
    rw c.in_ok-tell_all.ensures.ok (walks_dated _ t c.args.before (map (with_date (arc_value c.in_ok-line.line)) c.self.inside.links.links) (arc_value c.in_ok-line.line) (subst (λ core. Walks core t) (sym c.self.view_is) walks)
    (lt-ltb (c.args.before / comment_seconds) (c.self.inside.moment / comment_seconds) c.if-before-self.true)
    (c.in_ok-line.ensures.ok ∙ c.comment_of.ensures ∙ ap (λ server. comment_text server c.self.inside.moment) c.server_of.ensures) refl)
