use Rattle.std.proofs.Common.{sym}
use Rattle.heard_routing.proofs.ListedLemmas.{unlisted}
use Rattle.heard_routing.proofs.listed.unlist.Goals as goal

pub returns-in-Some-clause-unlisted : goal.returns-in-Some-clause-unlisted
returns-in-Some-clause-unlisted c =
    unlisted c.args.link c.args.call.now c.args.listed.now.entries (c.get_mut.follows.lender c.remove.new.self).entries c.in-Some.calls.now c.remove.new.self
    (sym c.in-Some.ensures.value) (c.get_mut.follows.holds c.remove.new.self).0 c.remove.ensures
