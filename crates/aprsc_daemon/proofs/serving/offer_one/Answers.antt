use Rattle.std.proofs.Common.{[], refl, length, ap, arith, length-take}
use Rattle.server_core.specs.LinkSteps.{pending_at}
use Rattle.aprs_base.specs.declared.events.Sent.TheVariants as sent
use Rattle.aprs_base.specs.declared.events.Happening.TheVariants as did
use Rattle.aprsc_daemon.proofs.BringLemmas.{brings_one}
use Rattle.aprsc_daemon.proofs.ActLemmas.{run_offered}
use Rattle.aprsc_daemon.proofs.serving.offer_one.Goals as goal

pub returns-in-Took-clause-run : goal.returns-in-Took-clause-run
returns-in-Took-clause-run g c = λ s lines offers closes same other.
    let bytes = c.next_bytes-bytes.result.now in
    run_offered lines s (g.W.Wire.shown c.args.wire.now).told (g.W.Wire.shown c.send.new.inner).told c.args.fronts.now.page c.send.new.self c.args.core.now c.took.new.self c.args.link offers closes bytes c.in_ok-count.field-0 (sent.Took c.in-Took.count)
    same c.took.ensures.rest.conf other c.in_ok-count.ensures.after.part c.in-Took.is
    c.next_bytes-bytes.ensures.next
    c.requires.same
    (λ h stands. c.took.ensures.stands h bytes c.requires.plain refl stands)
    c.in_ok-count.ensures.counted c.in_ok-count.ensures.after.ok

pub returns-in-Gone-clause-run : goal.returns-in-Gone-clause-run
returns-in-Gone-clause-run g c = λ s lines offers closes same other.
    let bytes = c.next_bytes-bytes.result.now in
    run_offered lines s (g.W.Wire.shown c.args.wire.now).told (g.W.Wire.shown c.send.new.inner).told c.args.fronts.now.page c.send.new.self c.args.core.now c.gone.new.self c.args.link offers closes bytes c.in_ok-count.field-0 sent.Gone
    same c.gone.ensures.rest.conf other c.in_ok-count.ensures.after.part c.in-Gone.is
    c.next_bytes-bytes.ensures.next
    c.requires.same
    (λ h stands. c.gone.ensures.stands h bytes stands)
    c.in_ok-count.ensures.counted c.in_ok-count.ensures.after.ok

pub took-requires-clause-small : goal.took-requires-clause-small
took-requires-clause-small g c =
    let size = length-take 65536 (pending_at c.args.link c.args.core.now.seen.links) in
    omega (arith, ap length c.next_bytes-bytes.ensures.bytes)

pub took-requires-clause-pending : goal.took-requires-clause-pending
took-requires-clause-pending g c =
    let size = length-take 65536 (pending_at c.args.link c.args.core.now.seen.links) in
    omega (arith, ap length c.next_bytes-bytes.ensures.bytes)

pub returns-in-Took-clause-brings : goal.returns-in-Took-clause-brings
returns-in-Took-clause-brings g c =
    brings_one (did.Sent c.args.link c.next_bytes-bytes.result.now c.in_ok-count.field-0) [] (g.W.Wire.shown c.args.wire.now).told (g.W.Wire.shown c.send.new.inner).told refl c.in_ok-count.ensures.after.ok

pub returns-in-Gone-clause-brings : goal.returns-in-Gone-clause-brings
returns-in-Gone-clause-brings g c =
    brings_one (did.Sent c.args.link c.next_bytes-bytes.result.now c.in_ok-count.field-0) [] (g.W.Wire.shown c.args.wire.now).told (g.W.Wire.shown c.send.new.inner).told refl c.in_ok-count.ensures.after.ok
