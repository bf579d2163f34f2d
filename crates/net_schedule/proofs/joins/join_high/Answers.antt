use Rattle.std.proofs.Common.{◌≡◌, ◌<◌, ◌≤◌, ◌+◌, sym, ap, ◌∙◌, length, get_or, subst}
use Rattle.net_history.specs.Network.{address_of, changed_at}
use Rattle.net_schedule.specs.Kept.{kept_downlink}
use Rattle.net_schedule.specs.Running.{ServerKept}
use Rattle.net_schedule.proofs.ListLemmas.{change_set, get_there, on_ok}
use Rattle.net_schedule.proofs.joins.join_high.Goals as goal

pub returns : goal.returns
returns c = λ kept at room.
    let place = c.from-place.result in
    let old = get_or c.args.servers.now place c.index-servers-place.result in
    let lt : place < length c.args.servers.now = c.if-place-servers.false in
    let same : kept ≡ old = sym (get_there c.args.servers.now place kept c.index-servers-place.result (ap (Rattle.std.specs.Prelude.slice_get c.args.servers.now) c.from-place.ensures ∙ at)) in
    on_ok c.admit.result
    (λ new. change_set (kept_downlink c.args.pair.now.listener (address_of c.args.pair.now.low)) c.args.servers.now place c.index-servers-place.result c.admit.new.self lt
    (new ∙ ap (λ from. kept_downlink c.args.pair.now.listener from old) c.address_of.ensures)
    ∙ ap (λ p. changed_at (kept_downlink c.args.pair.now.listener (address_of c.args.pair.now.low)) p c.args.servers.now) c.from-place.ensures)
    (c.admit.ensures (subst (λ (k : ServerKept). length k.made + 1 ≤ 4294967295) same room))
