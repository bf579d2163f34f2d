use Rattle.std.proofs.Common.{◌∷◌, subst, sym}
use Rattle.std.proofs.lemmas.Result.{on_ok_weaker}
use Rattle.aprs_history.specs.Trace.{AtListener, Opened}
use Rattle.aprs_history.specs.History.{admission}
use Rattle.server_core.specs.Meaning.{setting_of}
use Rattle.server_core.specs.Steps.{Walks}
use Rattle.server_core.proofs.CoreLemmas.{walks_opened}
use Rattle.server_core.proofs.TellingLemmas.{tells_opened}
use Rattle.server_core.proofs.WholeRoundLemmas.{stands_ok}
use Rattle.server_core.proofs.server.State.open.Goals as goal

pub returns-clause-walks : goal.returns-clause-walks
returns-clause-walks c = λ t walks.
    let core = c.args.self.now in
    on_ok_weaker c.admit.result
    (λ is. subst (λ new. Walks new (Opened (AtListener c.args.listener) (admission (setting_of core.conf) t c.args.listener) c.args.number c.args.from ∷ t)) (sym is)
    (walks_opened core t walks c.args.number c.args.from c.admission-admission.ensures.rising c.requires c.args.listener c.admission-admission.result c.admission-admission.ensures.value))
    c.admit.ensures

pub returns-clause-tells : goal.returns-clause-tells
returns-clause-tells c = λ t walks.
    stands_ok c.admit.result (tells_opened c.args.self.now t walks c.args.listener c.admission-admission.result c.args.number c.args.from c.args.lines.now.items c.tell_opened.new.lines.items
    c.admission-admission.ensures.value c.in_ok-tell_opened.ensures)
