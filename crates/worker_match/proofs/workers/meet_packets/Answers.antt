use Rattle.std.proofs.Common.{IfSome, ap, subst, sym, ◌∙◌}
use Rattle.worker_match.specs.Seen.{came_all}
use Rattle.worker_match.specs.Runs.{IsRunOf, RunSeen}
use Rattle.worker_match.proofs.RunLemmas.{run_met}
use Rattle.worker_match.proofs.workers.meet_packets.Goals as goal

pub returns-in-Some : goal.returns-in-Some
returns-in-Some c =
    run_met c.take_run.result (came_all c.args.offers.now) c.in-Some.run' _ c.args.link.now c.take_run.new.self
    (subst (λ run. IfSome run (λ run. IsRunOf (came_all c.args.offers.now) run)) c.in-Some.is c.requires.run)
    (sym c.suits.ensures ∙ c.if-suits.true) (ap (λ (run : RunSeen). run.lines) c.run.view_is)
    c.take_run.ensures.ok c.take_run.ensures.within c.take_run.ensures.counted
