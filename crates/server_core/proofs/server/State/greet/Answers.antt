use Rattle.std.proofs.Common.{◌≡◌, Some, ap, ◌∙◌, map}
use Rattle.std.specs.Arc.{arc_value}
use Rattle.std.specs.Option.{option_or}
use Rattle.filter_eval.specs.Passes.{fresh}
use Rattle.station_table.specs.Stations.{place_at}
use Rattle.aprs_history.specs.Stands.{place_kept}
use Rattle.aprs_history.specs.Texts.{login_reply}
use Rattle.std.proofs.lemmas.Result.{on_ok_weaker}
use Rattle.served_links.specs.Halves.{ServedSeen}
use Rattle.server_core.specs.LinkSteps.{greeted}
use Rattle.served_links.specs.Changes.{at_link, with_session}
use Rattle.server_core.specs.Meaning.{CoreMeaning}
use Rattle.server_core.proofs.CoreLemmas.{kept_risen, relinked, risen_by, with_served}
use Rattle.server_core.proofs.FollowLemmas.{text_number}
use Rattle.server_core.proofs.server.State.greet.Goals as goal

pub returns : goal.returns
returns c =
    let inside = c.self.inside in
    let core : CoreMeaning = record { conf = inside.conf; seen = record { moment = inside.moment; links = inside.links.links; turned = inside.turned.items; closing = inside.closing.items; window = inside.window; stations = inside.stations; heard = inside.heard; reach = inside.reach; greatest = inside.greatest; downs = inside.downs; stopped = inside.stopped; totals = record { accepted = inside.counts.accepted; duplicate = inside.counts.duplicate; refused = inside.counts.refused; queued = inside.links.queued } }; rests = inside.links.rests } in
    let reply : arc_value c.in_ok-line.line ≡ login_reply inside.conf.server c.args.session =
    c.in_ok-line.ensures.ok ∙ c.login_line.ensures ∙ ap (λ server. login_reply server c.args.session) c.server_of.ensures in
    let links = inside.links.links in
    on_ok_weaker c.log_in.result
    (λ is. ap (λ (s : ServedSeen). with_served s core) is
    ∙ ap (λ links. relinked links core) (ap (λ mine. map (at_link c.args.number (with_session c.args.session c.args.down mine (arc_value c.in_ok-line.line))) links) c.place_of-mine.ensures.exact
    ∙ ap (λ line. map (at_link c.args.number (with_session c.args.session c.args.down (fresh inside.moment (place_at inside.stations c.args.session.call)) line)) links) reply)
    ∙ ap (λ (core : CoreMeaning). record core { seen = greeted core.conf.server c.args.number c.args.session c.args.down core.seen }) c.self.view_is)
    c.log_in.ensures.ok

pub invariant_of-self : goal.invariant_of-self
invariant_of-self c =
    let line = arc_value c.in_ok-line.line in
    kept_risen _ c.log_in.new.self
    (risen_by c.log_in.result c.args.number (with_session c.args.session c.args.down c.place_of-mine.result line) c.self.inside.links c.log_in.new.self c.self.inside.greatest
    (λ link. text_number line (record link { session = Some c.args.session; down = option_or c.args.down link.down; mine = place_kept link.over c.place_of-mine.result }))
    c.log_in.ensures.err c.log_in.ensures.ok c.self.invariant.rising) c.self.invariant
