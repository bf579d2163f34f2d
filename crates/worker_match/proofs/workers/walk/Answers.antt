use Rattle.std.proofs.Common.{All, length, subst, sym}
use Rattle.std.proofs.lemmas.Bool.{eqb-true}
use Rattle.worker_match.specs.Items.{items_seen}
use Rattle.worker_match.specs.Walk.{IsOrdered}
use Rattle.worker_match.proofs.WalkLemmas.{block_more, blocks_done, ordered_back}
use Rattle.worker_match.proofs.workers.walk.Goals as goal

pub loop-rest-preserved : goal.loop-rest-preserved
loop-rest-preserved c = record {
  so_far = block_more c.min.result c.loop-rest.rest.now c.split_at.result.0.now c.split_at.result.1.now c.loop-rest.links c.walk_block.new.links _
      c.split_at.ensures.front c.split_at.ensures.back c.in_ok-walk_block.ensures c.loop-rest.invariant.so_far;
  ordered = subst (λ later. All IsOrdered (items_seen later)) (sym c.split_at.ensures.back) (ordered_back c.min.result c.loop-rest.rest.now c.loop-rest.invariant.ordered);
}

pub returns : goal.returns
returns c = blocks_done c.loop-rest.rest.now c.loop-rest.links _ (eqb-true (length c.loop-rest.rest.now) 0 (sym c.loop-rest-test.ensures)) c.loop-rest.invariant.so_far
