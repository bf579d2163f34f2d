use Rattle.std.proofs.Common.{◌+◌, drop, get_or, sym, ap, ◌∙◌, subst}
use Rattle.aprs_history.specs.Trace.{is_member}
use Rattle.server_core.proofs.LinkLemmas.{served_numbers}
use Rattle.server_core.proofs.WholeRoundLemmas.{next_item}
use Rattle.net_schedule.proofs.ListLemmas.{drop_past}
use Rattle.server_core.proofs.OfferLemmas.{first_differs, member_at, same_at}
use Rattle.net_schedule.proofs.TurnLemmas.{sends_end, sends_next}
use Rattle.net_schedule.proofs.rounds.send_all.Goals as goal

pub send_one-requires-clause-served : goal.send_one-requires-clause-served
send_one-requires-clause-served c =
    let offers = c.args.offers.now in
    let i = c.loop-link.link-index in
    let member = member_at offers i 0 c.loop-link-test.true in
    served_numbers _ c.loop-link.server.core.seen.links
    ∙ ap (is_member (get_or offers i 0)) c.loop-link.invariant.0
    ∙ sym (served_numbers _ c.args.server.now.core.seen.links)
    ∙ c.requires.served _ member

pub loop-link-preserved : goal.loop-link-preserved
loop-link-preserved c =
    let offers = c.args.offers.now in
    let i = c.loop-link.link-index in
    let link = get_or offers i 0 in
    let left = next_item offers i link c.loop-link-test.true (same_at offers i 0 _ c.loop-link-test.true) in (
      c.in_ok-send_one.ensures.numbers ∙ c.loop-link.invariant.0,
      c.in_ok-send_one.ensures.room,
      λ s rest round keeps same.
          let was = c.loop-link.invariant.2 s rest round keeps same in
          sends_next c.args.number rest round offers link (drop (i + 1) offers) s c.loop-link.server c.send_one.new.server c.args.ways.now c.loop-link.ways c.send_one.new.ways
          (first_differs 0 c.requires.rising.0 offers i link (drop (i + 1) offers) c.requires.rising.1 left)
          (subst (λ links. Rattle.net_schedule.specs.Rounds.Sends c.args.number rest round offers links s c.loop-link.server c.args.ways.now c.loop-link.ways) left was)
          (λ now keeps left. c.in_ok-send_one.ensures.keeps now rest round (drop (i + 1) offers) keeps left),
    )

pub returns : goal.returns
returns c = λ s rest round keeps same. sends_end c.args.number rest round c.args.offers.now (drop c.loop-link.link-index c.args.offers.now) s c.loop-link.server c.args.ways.now c.loop-link.ways
    (drop_past c.args.offers.now c.loop-link.link-index c.loop-link-test.false) (c.loop-link.invariant.2 s rest round keeps same)
