use Rattle.std.proofs.Common.{sym, ap, ◌∙◌, ◌<◌, length, get_or}
use Rattle.net_history.specs.Network.{changed_at}
use Rattle.net_history.proofs.PlaceLemmas.{all_at}
use Rattle.net_schedule.specs.Joined.{HasFewListens, after_mail, kept_mail}
use Rattle.net_schedule.proofs.ListLemmas.{change_set, get_some, on_ok}
use Rattle.net_schedule.proofs.joins.mail.Goals as goal

pub returns : goal.returns
returns c = λ few.
    let place = c.from-place.result in
    let old = get_or c.args.servers.now place c.index-servers-place.result in
    let lt : place < length c.args.servers.now = c.if-place-servers.false in
    let there = get_some c.args.servers.now place c.index-servers-place.result lt in
    on_ok c.take_datagram.result
    (λ new. change_set (kept_mail c.args.peer c.in-Some.bytes) c.args.servers.now place c.index-servers-place.result c.take_datagram.new.server lt new
    ∙ ap (λ p. changed_at (kept_mail c.args.peer c.in-Some.bytes) p c.args.servers.now) c.from-place.ensures
    ∙ ap (λ o. after_mail c.args.to c.args.peer o c.args.servers.now) (sym c.in-Some.is ∙ c.datagram.ensures))
    (c.take_datagram.ensures (all_at HasFewListens place c.args.servers.now old there few))
