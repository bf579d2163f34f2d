use Rattle.std.proofs.Common.{sym, subst, map, take, get_or}
use Rattle.aprs_history.specs.Acts.{Closes}
use Rattle.net_history.specs.Network.{end_beyond}
use Rattle.net_history.specs.Serving.{with_acts}
use Rattle.net_schedule.specs.Kept.{kept_told}
use Rattle.net_schedule.specs.Running.{joins_of}
use Rattle.net_schedule.specs.Standing.{Turns}
use Rattle.net_schedule.proofs.ListLemmas.{take_past}
use Rattle.net_schedule.proofs.TurnLemmas.{close_turns, closes_more}
use Rattle.net_schedule.proofs.rounds.close_all.Goals as goal

pub loop-link-preserved : goal.loop-link-preserved
loop-link-preserved c = λ rest brought n turns.
    let closes = c.args.closes.now in
    let i = c.loop-link.link-index in
    let link = get_or closes i 0 in
    let now = with_acts c.args.number (map Closes (take i closes)) n in
    let next = close_turns c.args.number rest brought link c.loop-link.servers c.loop-link.ways now (c.loop-link.invariant rest brought n turns) in
    subst (λ m. Turns c.args.number rest brought c.close.new.servers c.close.new.ways m) (sym (closes_more c.args.number closes i 0 n c.loop-link-test.true))
    (subst (λ servers. Turns c.args.number rest brought servers c.close.new.ways (Rattle.net_history.specs.Serving.with_act c.args.number (Closes link) now)) (sym c.in_ok-close.ensures.servers)
    (subst (λ ways. Turns c.args.number rest brought (kept_told (end_beyond c.args.number link (joins_of c.loop-link.ways)) c.loop-link.servers) ways (Rattle.net_history.specs.Serving.with_act c.args.number (Closes link) now)) (sym c.in_ok-close.ensures.ways) next))

pub returns : goal.returns
returns c = λ rest brought n turns.
    subst (λ links. Turns c.args.number rest brought c.loop-link.servers c.loop-link.ways (with_acts c.args.number (map Closes links) n)) (take_past c.args.closes.now c.loop-link.link-index c.loop-link-test.false)
    (c.loop-link.invariant rest brought n turns)
