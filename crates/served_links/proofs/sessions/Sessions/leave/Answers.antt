use Rattle.std.proofs.Common.{◌<◌, ◌+◌, arith, length, slice_set, subst, sym, true≢false, List}
use Rattle.aprs_history.specs.Stands.{LinkSeen}
use Rattle.served_links.specs.Counts.{CountsLogins, IsCounted, one_among}
use Rattle.served_links.specs.Links.{when_left}
use Rattle.served_links.proofs.CountLemmas.{counted_left}
use Rattle.served_links.proofs.HereLemmas.{one_left, set_there}
use Rattle.served_links.proofs.sessions.Sessions.leave.Goals as goal

pub overflow_sub-self : goal.overflow_sub-self
overflow_sub-self c =
    let one = one_left c.self.inside.links.items c.args.self.now c.self.view_is c.args.place c.index_mut-link.result.now c.leave.new.self c.is_client-client.result c.from.result c.self.inside.clients
    c.requires c.index_mut-link.ensures.value c.is_client-client.ensures c.leave.ensures c.from.ensures c.self.invariant.0 in
    omega (arith, one)

pub invariant_of-self : goal.invariant_of-self
invariant_of-self c =
    let links = c.self.inside.links.items in
    let place = c.args.place in
    let link = c.index_mut-link.result.now in
    let old = c.self.inside.counts.entries in
    let less = c.lower.new.counts.entries in
    let one = one_left links c.args.self.now c.self.view_is place link c.leave.new.self c.is_client-client.result c.from.result c.self.inside.clients
    c.requires c.index_mut-link.ensures.value c.is_client-client.ensures c.leave.ensures c.from.ensures c.self.invariant.0 in
    let within : place < length links = subst (λ (ls : List LinkSeen). place < length ls) (sym c.self.view_is) c.requires in (
      omega (arith, one),
      λ whole. absurd (true≢false whole),
      subst (λ l. CountsLogins less (slice_set links place l)) (sym c.leave.ensures)
          (counted_left old less links place link within c.index_mut-link.ensures.value c.self.invariant.2
          (λ other n counted. c.lower.ensures other n (subst (λ logins. IsCounted other (n + one_among other logins) old) (sym c.verified_call.ensures) counted))),
    )

pub returns : goal.returns
returns c link got =
    set_there c.self.inside.links.items c.args.self.now c.self.view_is c.args.place when_left c.index_mut-link.result.now c.leave.new.self link c.index_mut-link.ensures.value c.leave.ensures got
