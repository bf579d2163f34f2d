use Rattle.std.proofs.Common.{◌<◌, sym, ap, ◌∙◌, get_or, length, nat_lt, nat_le}
use Rattle.std.proofs.lemmas.Bool.{and_parts, leb-true}
use Rattle.net_history.specs.Network.{address_of, changed_at}
use Rattle.net_schedule.specs.Asked.{kept_opens}
use Rattle.net_schedule.specs.Kept.{kept_client, next_number}
use Rattle.net_schedule.proofs.ListLemmas.{change_set, get_some, on_ok}
use Rattle.net_schedule.proofs.network.open.Goals as goal

pub returns : goal.returns
returns c = λ opens.
    let place = c.from-place.result in
    let old = get_or c.args.servers.now place c.index-servers-place.result in
    let lt : place < length c.args.servers.now = c.if-place-servers.false in
    let there = get_some c.args.servers.now place c.index-servers-place.result lt in
    let may = ap (kept_opens c.args.listener) (sym there) ∙ ap (λ p. kept_opens c.args.listener (Rattle.std.specs.Prelude.slice_get c.args.servers.now p)) c.from-place.ensures ∙ opens in
    let room = leb-true (next_number old) 4294967295 (and_parts (nat_lt c.args.listener (length old.listens)) (nat_le (next_number old) 4294967295) may).1 in
    on_ok c.open.result
    (λ new. change_set (kept_client c.args.listener (address_of c.args.server) c.args.call.now) c.args.servers.now place c.index-servers-place.result c.open.new.self lt
    (new ∙ ap (λ from. kept_client c.args.listener from c.args.call.now old) c.address_of.ensures)
    ∙ ap (λ p. changed_at (kept_client c.args.listener (address_of c.args.server) c.args.call.now) p c.args.servers.now) c.from-place.ensures)
    (c.open.ensures room)
