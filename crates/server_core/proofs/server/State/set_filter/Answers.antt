use Rattle.std.proofs.Common.{◌∙◌, ap, map, None}
use Rattle.aprs_base.specs.declared.packets.Source.TheVariants as source
use Rattle.std.specs.Arc.{arc_value}
use Rattle.aprs_history.specs.declared.verdicts.FilterAnswer.TheVariants.{Active}
use Rattle.aprs_history.specs.declared.verdicts.Verdict.TheVariants.{Filtered}
use Rattle.aprs_history.specs.Stands.{friends_kept}
use Rattle.std.proofs.lemmas.Result.{on_ok_weaker}
use Rattle.served_links.specs.Halves.{ServedSeen}
use Rattle.served_links.specs.Changes.{at_link, with_filter}
use Rattle.server_core.specs.LinkSteps.{found_in}
use Rattle.server_core.specs.Meaning.{CoreMeaning}
use Rattle.server_core.specs.Steps.{with_port}
use Rattle.server_core.proofs.CoreLemmas.{kept_risen, relinked, risen_by, with_served}
use Rattle.server_core.proofs.FollowLemmas.{text_number}
use Rattle.server_core.proofs.server.State.set_filter.Goals as goal

pub returns : goal.returns
returns c =
    let i = c.self.inside in
    let core : CoreMeaning = record { conf = i.conf; seen = record { moment = i.moment; links = i.links.links; turned = i.turned.items; closing = i.closing.items; window = i.window; stations = i.stations; heard = i.heard; reach = i.reach; greatest = i.greatest; downs = i.downs; stopped = i.stopped; totals = record { accepted = i.counts.accepted; duplicate = i.counts.duplicate; refused = i.counts.refused; queued = i.links.queued } }; rests = i.links.rests } in
    let links = i.links.links in
    on_ok_weaker c.set_filter.result
    (λ is. ap (λ (s : ServedSeen). with_served s core) is
    ∙ ap (λ links. relinked links core) (ap (λ terms. map (at_link c.args.number (with_filter terms c.friends_found-friends.result (arc_value c.in_ok-line.line))) links) c.in_ok-filter.ensures.ok
    ∙ ap (λ friends. map (at_link c.args.number (with_filter c.args.filter friends (arc_value c.in_ok-line.line))) links) c.friends_found-friends.ensures
    ∙ ap (λ line. map (at_link c.args.number (with_filter c.args.filter (map (found_in i.moment i.stations) c.args.filter) line)) links) c.in_ok-line.ensures.ok)
    ∙ ap (with_port (source.Link c.args.number) None (Filtered (Active c.args.filter c.args.line))) c.self.view_is)
    c.set_filter.ensures.ok

pub invariant_of-self : goal.invariant_of-self
invariant_of-self c =
    let line = arc_value c.in_ok-line.line in
    kept_risen _ c.set_filter.new.self
    (risen_by c.set_filter.result c.args.number (with_filter (arc_value c.in_ok-filter.filter) c.friends_found-friends.result line) c.self.inside.links c.set_filter.new.self c.self.inside.greatest
    (λ link. text_number line (record link { filter = arc_value c.in_ok-filter.filter; friends = friends_kept link.over c.friends_found-friends.result }))
    c.set_filter.ensures.err c.set_filter.ensures.ok c.self.invariant.rising) c.self.invariant
