use Rattle.std.proofs.Common.{subst, sym, ap, ◌∙◌, map, filter}
use Rattle.server_core.specs.Kept.{IsKept}
use Rattle.server_core.specs.LinkSteps.{AreServed}
use Rattle.served_links.specs.Links.{Rises, is_ready, number_of}
use Rattle.server_core.specs.Meaning.{CoreMeaning}
use Rattle.served_links.proofs.LinkLemmas.{rises_filter}
use Rattle.server_core.proofs.LinkLemmas.{served_filter}
use Rattle.server_core.proofs.server.State.acts.Goals as goal

pub returns-clause-rising : goal.returns-clause-rising
returns-clause-rising c =
    let core = c.args.self.now in
    let kept = subst IsKept c.self.view_is c.self.invariant in
    let offers = c.in_ok-offers.ensures ∙ ap (λ links. map number_of (filter is_ready links)) (ap (λ (m : CoreMeaning). m.seen.links) c.self.view_is) in
    subst (λ ns. Rises 0 ns core.seen.greatest) (sym offers) (rises_filter is_ready 0 core.seen.greatest core.seen.links kept.rising)

pub returns-clause-served : goal.returns-clause-served
returns-clause-served c =
    let core = c.args.self.now in
    let offers = c.in_ok-offers.ensures ∙ ap (λ links. map number_of (filter is_ready links)) (ap (λ (m : CoreMeaning). m.seen.links) c.self.view_is) in
    subst (λ ns. AreServed ns core.seen.links) (sym offers) (served_filter is_ready core.seen.links)
