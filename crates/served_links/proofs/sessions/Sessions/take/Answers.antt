use Rattle.std.proofs.Common.{ap, nat_lt}
use Rattle.served_links.specs.Links.{login_here, named_of}
use Rattle.served_links.proofs.CountLemmas.{logins_set, still_right}
use Rattle.served_links.proofs.HereLemmas.{named_set, set_there}
use Rattle.served_links.proofs.sessions.Sessions.take.Goals as goal

pub invariant_of-self : goal.invariant_of-self
invariant_of-self c =
    let links = c.self.inside.links.items in
    still_right _ links (named_set links c.args.place c.take.new.self c.index_mut.result.now c.index_mut.ensures.value (ap named_of c.take.ensures))
    (logins_set links c.args.place c.take.new.self c.index_mut.result.now c.index_mut.ensures.value (ap login_here c.take.ensures))
    c.self.inside.clients c.self.inside.parted c.self.inside.counts.entries c.self.invariant

pub returns : goal.returns
returns c link got =
    set_there c.self.inside.links.items c.args.self.now c.self.view_is c.args.place (λ half. record half { blocked = nat_lt c.args.count c.args.offered }) c.index_mut.result.now c.take.new.self link
    c.index_mut.ensures.value c.take.ensures got
