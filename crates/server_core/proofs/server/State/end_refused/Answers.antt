use Rattle.std.proofs.Common.{refl, subst, sym, ◌∙◌}
use Rattle.std.proofs.lemmas.Result.{on_ok_weaker}
use Rattle.aprs_history.specs.History.{end_each, refused_links, refused_reason}
use Rattle.server_core.specs.Meaning.{setting_of}
use Rattle.server_core.specs.Steps.{Walks}
use Rattle.server_core.proofs.CoreLemmas.{walks_refused}
use Rattle.server_core.proofs.TellingLemmas.{tells_refused}
use Rattle.server_core.proofs.WholeRoundLemmas.{stands_ok}
use Rattle.server_core.proofs.server.State.end_refused.Goals as goal

pub returns-clause-walks : goal.returns-clause-walks
returns-clause-walks c = λ t walks.
    let core = c.args.self.now in
    on_ok_weaker c.let_go.result
    (λ is. subst (λ core. Walks core (end_each (refused_reason t) (refused_links (setting_of c.args.self.now.conf) t) t)) (sym is)
    (walks_refused core core.conf t c.as_slice-2.result.now _ _ _ _ walks refl (c.as_slice-2.ensures.value ∙ c.in_ok-ends.ensures) refl refl refl refl))
    c.let_go.ensures.exact

pub returns-clause-tells : goal.returns-clause-tells
returns-clause-tells c = λ t walks known.
    stands_ok c.let_go.result (tells_refused c.args.self.now t walks c.args.events.now known c.as_slice.result.now (c.as_slice.ensures.value ∙ c.in_ok-ends.ensures)
    c.args.lines.now.items c.tell_refused.new.lines.items c.in_ok-tell_refused.ensures)
