use Rattle.std.specs.Arc.{arc_value}
use Rattle.std.proofs.Common.{refl}
use Rattle.worker_match.proofs.TakenLemmas.{run_taken}
use Rattle.worker_match.proofs.links.LinkFeed.take_lines.Goals as goal

pub returns-clause-ok : goal.returns-clause-ok
returns-clause-ok c =
    run_taken (arc_value c.args.batch.now) c.args.from c.args.to _ c.args.self.now c.push_run.new.self c.saturating_add-self-inside.result c.in_ok-count.count _
    c.self.view_is c.requires c.in_ok-count.ensures.ok c.in_ok-count.ensures.count c.saturating_add-self-inside.ensures refl
