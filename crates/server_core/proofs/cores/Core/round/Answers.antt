use Rattle.std.proofs.Common.{ap, subst, sym, ◌∙◌}
use Rattle.server_core.specs.Meaning.{CoreMeaning, Stands}
use Rattle.server_core.proofs.WholeRoundLemmas.{accepted_ok, acts_ok}
use Rattle.server_core.proofs.cores.Core.round.Goals as goal

pub returns-in-Ok-clause-due : goal.returns-in-Ok-clause-due
returns-in-Ok-clause-due g c = λ h stands.
    let before = subst (λ core. Stands core h) (sym c.self.view_is) stands in
    acts_ok c.round.new.self c.args.events.now h c.requires.whole before.finished (c.in-Ok.ensures.stands h before) c.acts.result c.acts.ensures.offers c.acts.ensures.closes c.acts.ensures.dial c.acts.ensures.casts

pub returns-in-Ok-clause-accepted : goal.returns-in-Ok-clause-accepted
returns-in-Ok-clause-accepted g c = λ h stands.
    let before = subst (λ core. Stands core h) (sym c.self.view_is) stands in
    accepted_ok c.round.new.self c.args.events.now h c.requires.whole before.finished (c.in-Ok.ensures.stands h before) c.args.self.now.conf (c.in-Ok.ensures.conf ∙ ap (λ (core : CoreMeaning). core.conf) c.self.view_is) c.acts.result c.acts.ensures.accepted
