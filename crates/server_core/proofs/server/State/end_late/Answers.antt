use Rattle.std.proofs.Common.{ap, filter, refl, subst, sym, ◌∙◌}
use Rattle.std.proofs.lemmas.Result.{on_ok_weaker}
use Rattle.aprs_history.specs.History.{end_each}
use Rattle.aprs_history.specs.Links.{late_links, late_reason}
use Rattle.served_links.specs.Links.{is_late_link, is_none_of}
use Rattle.server_core.specs.Meaning.{setting_of, timeouts_of}
use Rattle.server_core.specs.Steps.{Walks}
use Rattle.server_core.proofs.CoreLemmas.{walks_late}
use Rattle.server_core.proofs.LeftLemmas.{passing_left}
use Rattle.server_core.proofs.TellingLemmas.{tells_late}
use Rattle.server_core.proofs.WholeRoundLemmas.{stands_ok}
use Rattle.server_core.proofs.server.State.end_late.Goals as goal

pub returns-clause-walks : goal.returns-clause-walks
returns-clause-walks c = λ t walks.
    let core = c.args.self.now in
    let late = is_late_link (timeouts_of core.conf) core.seen.moment in
    let ends = c.as_slice.ensures.value ∙ c.in_ok-ends.ensures in
    on_ok_weaker c.let_go.result
    (λ is. subst (λ core. Walks core (end_each (late_reason t) (late_links (setting_of c.args.self.now.conf) t) t)) (sym is)
    (walks_late core core.conf t c.as_slice.result.now _ _ _ _ walks refl ends
    (ap (λ ns. filter (is_none_of ns) core.seen.links) ends ∙ passing_left late core.seen.greatest core.seen.links c.let_go.ensures.rising) refl refl refl))
    c.let_go.ensures.exact

pub returns-clause-tells : goal.returns-clause-tells
returns-clause-tells c = λ t walks.
    stands_ok c.let_go.result (tells_late c.args.self.now t walks c.args.lines.now.items c.tell_late.new.lines.items c.in_ok-tell_late.ensures)
