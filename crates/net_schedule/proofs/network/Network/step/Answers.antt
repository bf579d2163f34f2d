use Rattle.std.proofs.Common.{◌≡◌, true, false, refl, sym, ap, ◌∙◌, subst}
use Rattle.net_history.specs.Steps.{is_there, network_of, with_step}
use Rattle.net_schedule.specs.Asked.{kept_is_there}
use Rattle.net_schedule.specs.Networks.{IsSound}
use Rattle.net_schedule.specs.Running.{NetKept, layout_of}
use Rattle.net_schedule.specs.Standing.{IsNetwork, StandsFor}
use Rattle.net_schedule.proofs.StandLemmas.{sound_next, step_done, told_there}
use Rattle.net_schedule.proofs.network.Network.step.Goals as goal

pub returns-then-not-has-clause-not_there : goal.returns-then-not-has-clause-not_there
returns-then-not-has-clause-not_there g c = λ steps stands same. (sym (told_there c.args.self.now steps stands (subst IsSound c.self.view_is (c.self.invariant (ap (λ (k : NetKept). k.spent) c.self.view_is ∙ c.requires))).peers c.args.event) ∙ sym c.has.ensures ∙ c.if-not-has.true, refl)

pub invariant_of-self-2 : goal.invariant_of-self-2
invariant_of-self-2 g c = λ going.
    let old = Rattle.net_schedule.specs.contracts.network.Network.the_view c.self.inside in
    let new = Rattle.net_schedule.specs.contracts.network.Network.the_view c.self-2.inside in
    let sound = c.self.invariant (ap (λ (k : NetKept). k.spent) c.self.view_is ∙ c.requires) in
    let told = ap (λ (k : NetKept). kept_is_there k c.args.event) c.self.view_is ∙ sym c.has.ensures ∙ c.if-not-has.false in
    let pairs = ap (λ (k : NetKept). k.pairs) c.self-2.view_is ∙ c.in_ok-take.ensures.parts.0 in
    let peers = ap (λ (k : NetKept). k.peers) c.self-2.view_is ∙ c.in_ok-take.ensures.parts.1 in
    sound_next old (record new { spent = false }) sound.steps c.args.event sound.peers sound.few (step_done old (record new { spent = false }) sound.steps c.args.event sound.stands sound.peers told pairs peers (subst (λ k. IsNetwork k (with_step (layout_of old) c.args.event (network_of (layout_of old) sound.steps))) (sym c.self-2.view_is) (c.in_ok-take.ensures.stands sound.steps sound.stands)))

pub returns-clause-layout : goal.returns-clause-layout
returns-clause-layout g c =
    let old = Rattle.net_schedule.specs.contracts.network.Network.the_view c.self.inside in
    let new = Rattle.net_schedule.specs.contracts.network.Network.the_view c.self-2.inside in
    let sound = c.self.invariant (ap (λ (k : NetKept). k.spent) c.self.view_is ∙ c.requires) in
    let told = ap (λ (k : NetKept). kept_is_there k c.args.event) c.self.view_is ∙ sym c.has.ensures ∙ c.if-not-has.false in
    let pairs = ap (λ (k : NetKept). k.pairs) c.self-2.view_is ∙ c.in_ok-take.ensures.parts.0 in
    let peers = ap (λ (k : NetKept). k.peers) c.self-2.view_is ∙ c.in_ok-take.ensures.parts.1 in
    (step_done old new sound.steps c.args.event sound.stands sound.peers told pairs peers (subst (λ k. IsNetwork k (with_step (layout_of old) c.args.event (network_of (layout_of old) sound.steps))) (sym c.self-2.view_is) (c.in_ok-take.ensures.stands sound.steps sound.stands))).layout ∙ ap layout_of c.self.view_is

pub returns-clause-done : goal.returns-clause-done
returns-clause-done g c = λ steps stands same.
    let old = Rattle.net_schedule.specs.contracts.network.Network.the_view c.self.inside in
    let new = Rattle.net_schedule.specs.contracts.network.Network.the_view c.self-2.inside in
    let sound = c.self.invariant (ap (λ (k : NetKept). k.spent) c.self.view_is ∙ c.requires) in
    let told = ap (λ (k : NetKept). kept_is_there k c.args.event) c.self.view_is ∙ sym c.has.ensures ∙ c.if-not-has.false in
    let pairs = ap (λ (k : NetKept). k.pairs) c.self-2.view_is ∙ c.in_ok-take.ensures.parts.0 in
    let peers = ap (λ (k : NetKept). k.peers) c.self-2.view_is ∙ c.in_ok-take.ensures.parts.1 in
    let stands' = subst (λ k. StandsFor k steps) (sym c.self.view_is) stands in
    let done = step_done old new steps c.args.event stands' sound.peers told pairs peers (subst (λ k. IsNetwork k (with_step (layout_of old) c.args.event (network_of (layout_of old) steps))) (sym c.self-2.view_is) (c.in_ok-take.ensures.stands steps stands')) in
    (subst (λ (k : NetKept). is_there (layout_of k) (network_of (layout_of k) steps) c.args.event ≡ true) c.self.view_is done.there, done.stands)
