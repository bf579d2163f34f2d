use Rattle.std.proofs.Common.{◌≡◌, take}
use Rattle.worker_match.specs.Walk.{friends_seen}
use Rattle.worker_match.proofs.friends.see_each.Given as goal

abbrev pub invariant-loop-place : goal.invariant-loop-place
invariant-loop-place l = l.friends ≡ friends_seen l.call l.seen (take l.place l.terms) l.initial.friends
