use Rattle.std.proofs.Common.{◌≡◌, ◌<◌, [], None, ap, false, filter, subst, sym, ◌∙◌}
use Rattle.aprs_history.specs.History.{begin_round}
use Rattle.aprs_history.specs.Stands.{ReachSeen}
use Rattle.server_core.specs.LinkSteps.{ended_all, forgotten_all, is_there}
use Rattle.served_links.specs.Links.{is_lost, is_none_of, numbers}
use Rattle.server_core.specs.Meaning.{CoreMeaning}
use Rattle.server_core.specs.Steps.{Walks}
use Rattle.server_core.proofs.CoreLemmas.{kept_left, walks_begun, walks_resting}
use Rattle.server_core.proofs.LeftLemmas.{passing_left}
use Rattle.served_links.proofs.ServedSteps.{emptied_rises}
use Rattle.served_links.proofs.LinkLemmas.{rises_filter}
use Rattle.server_core.proofs.server.State.begin.Goals as goal

pub invariant_of-self : goal.invariant_of-self
invariant_of-self c =
    kept_left _ c.drop_these.new.self c.forget_all.new.heard c.end_all.new.self c.clear.new.self.items c.clear-2.new.self.items
    (emptied_rises c.in_err-drop_these.ensures.err c.self.inside.greatest) c.self.invariant

pub invariant_of-self-2 : goal.invariant_of-self-2
invariant_of-self-2 c =
    let links = filter (is_none_of c.as_slice-3.result.now) c.self.inside.links.links in
    rw c.wake.ensures (rw c.in_ok-drop_these.ensures.ok (kept_left _ (record c.self.inside.links { links = links; rests = false }) c.forget_all.new.heard c.end_all.new.self c.clear.new.self.items c.clear-2.new.self.items
    (rises_filter (is_none_of c.as_slice-3.result.now) 0 c.self.inside.greatest c.self.inside.links.links c.self.invariant.rising) c.self.invariant))

pub returns-clause-lasts : goal.returns-clause-lasts
returns-clause-lasts c = subst (λ (core : CoreMeaning). 0 < core.seen.window.seconds) c.self.view_is c.self.invariant.window.lasts

pub returns-clause-walks : goal.returns-clause-walks
returns-clause-walks c = λ t walks.
    let inside = c.self.inside in
    let links = filter (is_none_of c.as_slice-3.result.now) inside.links.links in
    let left : links ≡ filter is_there inside.links.links =
    ap (λ ns. filter (is_none_of ns) inside.links.links) (c.as_slice-3.ensures.value ∙ c.in_ok-lost.ensures)
    ∙ passing_left is_lost inside.greatest inside.links.links c.self.invariant.rising in
    let reached : c.end_all.new.self ≡ record inside.reach { uplinks = ended_all (numbers (filter is_lost inside.links.links)) inside.moment inside.reach.uplinks; dial = None; casts = []; accepted = [] } =
    c.end_all.ensures
    ∙ ap (λ ns. record c.begin.new.self { uplinks = ended_all ns inside.moment c.begin.new.self.uplinks }) (c.as_slice.ensures.value ∙ c.in_ok-lost.ensures)
    ∙ ap (λ (reach : ReachSeen). record reach { uplinks = ended_all (numbers (filter is_lost inside.links.links)) inside.moment reach.uplinks }) c.begin.ensures in
    let begun = walks_begun _ t links c.forget_all.new.heard c.end_all.new.self c.clear.new.self.items c.clear-2.new.self.items (subst (λ core. Walks core t) (sym c.self.view_is) walks) left
    (c.forget_all.ensures ∙ ap (λ ns. forgotten_all ns inside.heard) (c.as_slice-2.ensures.value ∙ c.in_ok-lost.ensures)) reached c.clear.ensures.items c.clear-2.ensures.items in
    rw c.wake.ensures (rw c.in_ok-drop_these.ensures.ok (walks_resting _ (begin_round t) false begun))
