use Rattle.std.proofs.Common.{◌∙◌, ap, subst, sym, ◌∷◌}
use Rattle.std.proofs.lemmas.Result.{on_ok_weaker}
use Rattle.aprs_history.specs.declared.verdicts.Admission.{Admission}
use Rattle.aprs_history.specs.Trace.{ByUplink, Opened}
use Rattle.aprs_history.specs.History.{joined_admission}
use Rattle.server_core.specs.LinkSteps.{admitted_in, joined_outcome}
use Rattle.server_core.specs.Meaning.{CoreMeaning, setting_of}
use Rattle.server_core.specs.Steps.{Walks}
use Rattle.server_core.proofs.CoreLemmas.{walks_joined}
use Rattle.server_core.proofs.server.State.join.Goals as goal

pub returns-clause-walks : goal.returns-clause-walks
returns-clause-walks c = λ t walks.
    let core = c.args.self.now in
    let became = Opened (ByUplink c.args.uplink) (joined_admission (setting_of core.conf) t c.args.uplink c.args.number) c.args.number c.args.at ∷ t in
    let new = walks_joined core t walks c.args.number c.args.at c.ask-asked.ensures.rising c.requires c.args.uplink c.ask-asked.result c.ask-asked.ensures.asked in
    on_ok_weaker c.admit.result
    (λ is. subst (λ new. Walks new became) (sym (is
    ∙ ap (λ (outcome : Admission). record c.ask-asked.new.self { seen = admitted_in (setting_of c.ask-asked.new.self.conf) outcome c.args.number c.args.at c.ask-asked.new.self.seen }) c.joined_outcome.ensures
    ∙ ap (λ (core : CoreMeaning). record core { seen = admitted_in (setting_of core.conf) (joined_outcome c.args.uplink c.ask-asked.result) c.args.number c.args.at core.seen }) c.ask-asked.ensures.joins)) new)
    c.admit.ensures
