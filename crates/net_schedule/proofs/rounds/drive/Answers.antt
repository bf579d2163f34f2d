use Rattle.std.proofs.Common.{sym, ap, ◌∙◌, ◌++◌, subst, map}
use Rattle.aprs_history.specs.Acts.{cast_act, dials}
use Rattle.aprs_history.specs.Rounds.{with_events}
use Rattle.aprs_history.specs.History.{trace_of}
use Rattle.server_core.specs.ActsSeen.{ActsSeen}
use Rattle.net_schedule.specs.Rounds.{LeftSame, all_acted, offer_to, with_round_events}
use Rattle.net_schedule.specs.Standing.{Keeps}
use Rattle.net_schedule.proofs.DriveLemmas.{casts_keep, dialled_keeps}
use Rattle.net_schedule.proofs.TurnLemmas.{drives_so, left_first}
use Rattle.net_schedule.proofs.rounds.drive.Goals as goal

pub returns : goal.returns
returns g c = λ s rest keeps.
    let events = c.args.events.now in
    let acts = c.in_ok-acts.acts in
    let s1 = with_round_events events s in
    let s2 = all_acted (dials acts.dial) s1 in
    let s3 = all_acted (map cast_act acts.casts) s2 in
    let came = c.in_ok-acts.ensures.keeps s rest keeps in
    let dial = ap (λ (a : ActsSeen). a.dial) c.acts.view_is in
    let casts = c.as_slice.ensures.value ∙ ap (λ (a : ActsSeen). a.casts) c.acts.view_is in
    let offers = c.as_slice-2.ensures.value ∙ ap (λ (a : ActsSeen). a.offers) c.acts.view_is in
    let dialled = subst (λ k. Keeps rest k (all_acted (dials c.acts.inside.dial) s1)) (sym c.in_ok-dial.ensures) (dialled_keeps rest c.come.new.server c.acts.inside.dial s1 came) in
    let dialled' = subst (λ d. Keeps rest c.dial.new.server (all_acted (dials d) s1)) dial dialled in
    let cast = subst (λ k. Keeps rest k (all_acted (map cast_act c.as_slice.result.now) s2)) (sym c.in_ok-cast.ensures) (casts_keep rest c.dial.new.server c.as_slice.result.now s2 dialled') in
    let cast' = subst (λ cs. Keeps rest c.cast.new.server (all_acted (map cast_act cs) s2)) casts cast in
    let round = trace_of s.setting (with_events events s.history) in
    let left = subst (λ os. LeftSame round os s3) (sym offers) (left_first acts s1).0 in
    let sent = c.in_ok-send_all.ensures s3 rest round cast' left in
    drives_so c.args.number events rest s acts c.send_all.new.server c.args.ways.now c.send_all.new.ways keeps.plain (c.in_ok-acts.ensures.due s (events ++ rest) keeps)
    (subst (λ os. Keeps rest c.send_all.new.server (all_acted (map (offer_to s3.setting round) os) s3) × (Rattle.std.proofs.Common.◌≡◌ c.send_all.new.ways (Rattle.net_schedule.specs.Rounds.ways_sent c.args.number s3.setting round os c.args.ways.now))) offers sent)
