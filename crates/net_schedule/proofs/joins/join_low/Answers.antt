use Rattle.std.proofs.Common.{◌≡◌, ◌<◌, ◌≤◌, ◌+◌, sym, ap, ◌∙◌, length, get_or, subst}
use Rattle.net_history.specs.Network.{address_of, changed_at}
use Rattle.net_schedule.specs.Kept.{kept_uplink}
use Rattle.net_schedule.specs.Running.{ServerKept}
use Rattle.net_schedule.proofs.ListLemmas.{change_set, get_there, on_ok}
use Rattle.net_schedule.proofs.joins.join_low.Goals as goal

pub returns : goal.returns
returns c = λ kept at room.
    let place = c.from-place.result in
    let old = get_or c.args.servers.now place c.index-servers-place.result in
    let lt : place < length c.args.servers.now = c.if-place-servers.false in
    let same : kept ≡ old = sym (get_there c.args.servers.now place kept c.index-servers-place.result (ap (Rattle.std.specs.Prelude.slice_get c.args.servers.now) c.from-place.ensures ∙ at)) in
    on_ok c.join.result
    (λ new. change_set (kept_uplink c.args.pair.now.uplink (address_of c.args.pair.now.high)) c.args.servers.now place c.index-servers-place.result c.join.new.self lt
    (new ∙ ap (λ from. kept_uplink c.args.pair.now.uplink from old) c.address_of.ensures)
    ∙ ap (λ p. changed_at (kept_uplink c.args.pair.now.uplink (address_of c.args.pair.now.high)) p c.args.servers.now) c.from-place.ensures)
    (c.join.ensures (subst (λ (k : ServerKept). length k.made + 1 ≤ 4294967295) same room))
