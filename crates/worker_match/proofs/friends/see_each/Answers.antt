use Rattle.std.proofs.Common.{ap, refl, sym, ◌∙◌, arith}
use Rattle.worker_match.specs.Walk.{friend_seen}
use Rattle.worker_match.proofs.FriendLemmas.{seen_all, seen_more}
use Rattle.worker_match.proofs.friends.see_each.Goals as goal

pub loop-place-init : goal.loop-place-init
loop-place-init c = refl

pub loop-place-preserved : goal.loop-place-preserved
loop-place-preserved c =
    seen_more c.args.call.now c.args.seen.now c.args.terms.now c.args.friends.now c.loop-place.friends c.loop-place.place c.index-terms-place.result c.index-friends-place.result
    c.see_one.new.friend (omega arith) (omega arith) c.loop-place.invariant c.index-terms-place.is c.index-friends-place.is
    (c.see_one.ensures ∙ ap (friend_seen c.args.call.now c.args.seen.now c.index-terms-place.result) (sym c.index-friends-place.is))

pub returns-clause-seen : goal.returns-clause-seen
returns-clause-seen c =
    c.loop-place.invariant ∙ seen_all c.args.call.now c.args.seen.now c.args.terms.now c.args.friends.now c.loop-place.place (omega arith)
