use Rattle.std.proofs.Common.{◌∙◌, sym, drop}
use Rattle.worker_match.specs.Items.{item_seen, items_seen}
use Rattle.worker_match.proofs.WalkLemmas.{closed_stays, ordered_at, take_more}
use Rattle.worker_match.proofs.workers.walk_link.Goals as goal

pub returns-then-not-is_open : goal.returns-then-not-is_open
returns-then-not-is_open c =
    sym (closed_stays (items_seen (drop c.loop-item.item-index c.args.items.now)) c.loop-item.link (sym c.is_open.ensures ∙ c.if-not-is_open.true)) ∙ c.loop-item.invariant

pub take-requires : goal.take-requires
take-requires c = ordered_at item_seen c.args.items.now c.loop-item.item-index c.item-item.result c.requires c.loop-item-test.true c.item-item.is

pub loop-item-preserved : goal.loop-item-preserved
loop-item-preserved c =
    take_more item_seen c.args.items.now c.loop-item.item-index c.item-item.result c.loop-item.link c.take.new.self _ c.loop-item-test.true c.item-item.is c.in_ok-take.ensures.ok c.loop-item.invariant
