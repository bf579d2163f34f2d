use Rattle.std.proofs.Common.{◌==◌, sym, ap, ◌∙◌}
use Rattle.std.specs.List.{position}
use Rattle.net_schedule.proofs.ListLemmas.{none_left}
use Rattle.net_schedule.proofs.servers.forget.Goals as goal

pub returns-in-None : goal.returns-in-None
returns-in-None c = none_left c.args.uplink c.args.dialled.now.items (ap (position (λ other. other == c.args.uplink)) (sym c.as_slice.ensures.value) ∙ sym c.first_of.ensures ∙ c.in-None.is)
