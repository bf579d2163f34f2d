use Rattle.std.proofs.Common.{ap, nat_lt, ◌∙◌}
use Rattle.served_links.proofs.CountLemmas.{any_having}
use Rattle.served_links.proofs.logins.have_login.Goals as goal

pub returns : goal.returns
returns c = ap (nat_lt 0) c.count_login.ensures ∙ any_having c.args.call.now c.args.links.now
