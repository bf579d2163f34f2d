use Rattle.std.proofs.Common.{◌<◌, arith, false, length, refl, sym, true, ◌∙◌}
use Rattle.served_links.proofs.ServedLemmas.{as_many, ready_all, ready_more}
use Rattle.served_links.proofs.served.offers.ready.Goals as goal
use Rattle.served_links.proofs.served.offers.ready.Goals.{then-is_ready+in_ok-push, else-is_ready}

pub is_ready-requires-clause-within : goal.is_ready-requires-clause-within
is_ready-requires-clause-within c =
    let many = as_many c.args.sessions.now c.args.feeds.now.links c.requires.halves in
    let lt : c.loop-place.place < length c.args.sessions.now = c.loop-place-test.true in
    omega (arith, many, lt)

pub returns : goal.returns
returns c = ready_all c.args.sessions.now c.args.feeds.now.links c.loop-place.place c.loop-place.numbers.items c.requires.halves c.loop-place-test.false c.loop-place.invariant

pub loop-place-preserved : goal.loop-place-preserved
loop-place-preserved c =
    let hs = c.args.sessions.now in
    let ss = c.args.feeds.now.links in
    let half = c.index-sessions-place.result in
    elim c.if-is_ready.branch [
      | then-is_ready+in_ok-push w ↦
          rw w.numbers-is (w.in_ok-push.ensures.items
          ∙ ready_more hs ss c.loop-place.place half w.number.result true c.loop-place.numbers.items c.requires.halves c.loop-place-test.true c.index-sessions-place.is w.number.ensures
          (λ s there. sym w.if-is_ready.true ∙ c.is_ready.ensures s there) c.loop-place.invariant)
      | else-is_ready w ↦
          rw w.numbers-is (ready_more hs ss c.loop-place.place half half.link false c.loop-place.numbers.items c.requires.halves c.loop-place-test.true c.index-sessions-place.is refl
          (λ s there. sym w.if-is_ready.false ∙ c.is_ready.ensures s there) c.loop-place.invariant)
    ]
