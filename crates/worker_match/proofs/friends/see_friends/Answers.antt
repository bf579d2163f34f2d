use Rattle.std.proofs.Common.{refl, sym}
use Rattle.worker_match.specs.Walk.{terms_of}
use Rattle.worker_match.proofs.FriendLemmas.{none_seen}
use Rattle.worker_match.proofs.friends.see_friends.Goals as goal

pub returns-in-None : goal.returns-in-None
returns-in-None c = sym (none_seen c.args.call.now c.args.seen.now (terms_of c.args.filter.now) c.args.friends.now (c.in-None.ensures.none refl))
