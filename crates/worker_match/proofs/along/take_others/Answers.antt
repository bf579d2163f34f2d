use Rattle.std.proofs.Common.{◌-◌, ap, drop, sym, take, ◌∙◌}
use Rattle.worker_match.specs.Seen.{FeedSeen}
use Rattle.worker_match.specs.Walk.{is_from}
use Rattle.worker_match.specs.Runs.{RunSeen, with_run}
use Rattle.worker_match.proofs.OthersLemmas.{around, around_other, around_own}
use Rattle.worker_match.proofs.along.take_others.Goals.{then-is_from+in_ok-take_lines, else-is_from}
use Rattle.worker_match.proofs.along.take_others.Goals as goal

pub loop-offer-init : goal.loop-offer-init
loop-offer-init c = record {
  around = around c.args.offers.now c.args.run.now c.args.link.now c.requires.run c.requires.suits;
  number = ap (λ (link : FeedSeen). link.link) c.link.view_is;
}

pub loop-offer-preserved : goal.loop-offer-preserved
loop-offer-preserved c = record {
  around = elim c.if-is_from.branch [
    | then-is_from+in_ok-take_lines w ↦ rw (w.link-is, w.from-is, w.place-is)
        (around_own c.args.offers.now c.args.run.now.lines c.args.link.now c.loop-offer.link c.loop-offer.offer-index c.loop-offer.from c.loop-offer.place c.offer-item.result
        c.loop-offer.invariant.around c.loop-offer-test.true c.offer-item.is c.run_lines.result c.run_lines.ensures
        w.take_lines.new.self (ap (λ n. is_from n c.offer-item.result.packet.from) (sym c.loop-offer.invariant.number) ∙ sym c.is_from.ensures ∙ w.if-is_from.true)
        (w.in_ok-take_lines.ensures.ok
        ∙ ap (λ (run : RunSeen). with_run (take (c.loop-offer.place - c.loop-offer.from) (drop c.loop-offer.from run.lines)) c.loop-offer.link) c.run.view_is)
        w.in_ok-take_lines.ensures.within w.in_ok-take_lines.ensures.counted)
    | else-is_from w ↦ rw (w.link-is, w.from-is, w.place-is)
        (around_other c.args.offers.now c.args.run.now.lines c.args.link.now c.loop-offer.link c.loop-offer.offer-index c.loop-offer.from c.loop-offer.place c.offer-item.result
        c.loop-offer.invariant.around c.loop-offer-test.true c.offer-item.is c.run_lines.result c.run_lines.ensures
        (ap (λ n. is_from n c.offer-item.result.packet.from) (sym c.loop-offer.invariant.number) ∙ sym c.is_from.ensures ∙ w.if-is_from.false))
  ];
  number = c.loop-offer.invariant.number;
}
