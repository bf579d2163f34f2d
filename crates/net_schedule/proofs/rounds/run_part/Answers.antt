use Rattle.std.proofs.Common.{sym, ap, ◌∙◌, ◌++◌, get_or, subst, map, OnOk}
use Rattle.std.specs.Prelude.{slice_set}
use Rattle.aprs_history.specs.Acts.{Closes}
use Rattle.aprs_history.specs.Rounds.{is_whole}
use Rattle.server_core.specs.ActsSeen.{ActsSeen}
use Rattle.net_history.specs.Serving.{with_acts}
use Rattle.net_schedule.specs.Standing.{Keeps, Turns}
use Rattle.net_schedule.proofs.ListLemmas.{get_some}
use Rattle.net_schedule.proofs.TurnLemmas.{keep_at, part_done}
use Rattle.net_schedule.proofs.rounds.run_part.Goals as goal

pub returns : goal.returns
returns g c = λ rest brought n turns.
    let number = c.args.number in
    let events = c.args.events.now in
    let servers = c.args.servers.now in
    let item = c.index-servers-from.result in
    let found = keep_at number (events ++ rest) servers n.servers (get_or servers number item) turns.servers (get_some servers number item c.requires.there) in
    let s = found.0 in
    let whole = ap (λ k. is_whole k events) found.2.stands.finished ∙ c.requires.whole in
    let keeps = subst (λ p. Keeps (events ++ rest) (get_or servers p item) s) (sym c.from.ensures) found.2 in
    let closes = c.as_slice.ensures.value ∙ ap (λ (a : ActsSeen). a.closes) c.acts.view_is in
    part_done number rest brought events c.in_ok-acts.acts c.drive.new.server servers c.args.ways.now c.drive.new.ways n turns s found.1 whole (c.in_ok-acts.ensures s rest keeps)
    c.close_all.result c.close_all.new.servers c.close_all.new.ways
    (λ m turned. subst (λ links. OnOk c.close_all.result (Turns number rest brought c.close_all.new.servers c.close_all.new.ways (with_acts number (map Closes links) m))) closes
    (c.close_all.ensures rest brought m (subst (λ p. Turns number rest brought (slice_set servers p c.drive.new.server) c.drive.new.ways m) (sym c.from.ensures) turned)))
