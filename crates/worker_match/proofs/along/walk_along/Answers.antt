use Rattle.std.proofs.Common.{sym, ◌∙◌, drop}
use Rattle.worker_match.specs.Seen.{Came, came_all}
use Rattle.worker_match.proofs.AlongLemmas.{along_more}
use Rattle.worker_match.proofs.WalkLemmas.{closed_stays, ordered_at, walk_more}
use Rattle.worker_match.proofs.along.walk_along.Goals as goal

pub returns-then-not-is_open : goal.returns-then-not-is_open
returns-then-not-is_open c =
    sym (closed_stays (came_all (drop c.loop-offer.offer-index c.args.offers.now)) c.loop-offer.link (sym c.is_open.ensures ∙ c.if-not-is_open.true)) ∙ c.loop-offer.invariant.so_far

pub meet_placed-requires-clause-rising : goal.meet_placed-requires-clause-rising
meet_placed-requires-clause-rising c =
    ordered_at Came c.args.offers.now c.loop-offer.offer-index c.offer-item.result c.requires.ordered c.loop-offer-test.true c.offer-item.is

pub loop-offer-preserved : goal.loop-offer-preserved
loop-offer-preserved c = record {
  so_far = walk_more Came c.args.offers.now c.loop-offer.offer-index c.offer-item.result c.loop-offer.link c.meet_placed.new.self _ c.loop-offer-test.true c.offer-item.is
      (sym c.is_open.ensures ∙ c.if-not-is_open.false) c.in_ok-meet_placed.ensures c.loop-offer.invariant.so_far;
  along = (along_more c.args.offers.now c.args.run.now.lines c.loop-offer.offer-index c.loop-offer.place c.offer-item.result c.loop-offer.invariant.along c.loop-offer-test.true c.offer-item.is
      c.run_lines.result c.run_lines.ensures).0;
}
