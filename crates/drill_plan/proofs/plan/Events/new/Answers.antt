use Rattle.std.proofs.Common.{◌≡◌, ◌∙◌, true, ap, rules}
use Rattle.aprs_base.specs.Outside.{are_numbered}
use Rattle.drill_plan.proofs.EventLemmas.{drill_numbered}
use Rattle.drill_plan.proofs.LeftLemmas.{all_events, all_left}
use Rattle.drill_plan.proofs.plan.Events.new.Goals as goal

pub returns-clause-exact : goal.returns-clause-exact
returns-clause-exact c = all_left c.args.plan

pub returns-clause-numbered : goal.returns-clause-numbered
returns-clause-numbered c =
    let numbered : are_numbered 0 (all_events c.args.plan) ≡ true = ap (are_numbered 0) (all_left c.args.plan) ∙ drill_numbered c.args.plan in
    search rules
