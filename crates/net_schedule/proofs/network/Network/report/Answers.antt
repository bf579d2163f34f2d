use Rattle.std.proofs.Common.{ap, ◌∙◌, ◌++◌}
use Rattle.std.specs.List.{flat_map}
use Rattle.net_schedule.specs.Reported.{kept_report}
use Rattle.net_schedule.specs.Running.{NetKept}
use Rattle.net_schedule.proofs.ListLemmas.{on_ok}
use Rattle.net_schedule.proofs.StandLemmas.{network_report}
use Rattle.net_schedule.proofs.network.Network.report.Goals as goal

pub returns-else-is_err-clause-text : goal.returns-else-is_err-clause-text
returns-else-is_err-clause-text c = λ steps stands.
    on_ok c.append_all-done.result
    (λ text. text ∙ ap (λ xs. c.args.out.now.items ++ flat_map kept_report xs) (c.as_slice.ensures.value ∙ ap (λ (n : NetKept). n.servers) c.self.view_is)
    ∙ ap (λ xs. c.args.out.now.items ++ xs) (network_report c.args.self.now steps stands))
    c.append_all-done.ensures.text
