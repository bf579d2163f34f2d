use Rattle.std.specs.Arc.{arc_value}
use Rattle.std.proofs.Common.{refl}
use Rattle.std.proofs.lemmas.Bool.{false≢true}
use Rattle.worker_match.proofs.PushLemmas.{copy_fits, copy_over}
use Rattle.worker_match.proofs.links.LinkFeed.push_copy.Goals as goal

pub returns-in-Ok : goal.returns-in-Ok
returns-in-Ok c =
    copy_fits (arc_value c.args.line) _ c.args.self.now c.push.new.self c.self.view_is c.saturating_add-self-inside.result c.saturating_add-self-inside.ensures c.in-Ok.ensures.ok
    (λ full. false≢true (c.in-Ok.ensures.overfull.1 full))

pub returns-in-Err : goal.returns-in-Err
returns-in-Err c = copy_over (arc_value c.args.line) _ c.args.self.now c.push.new.self c.self.view_is c.in-Err.ensures.err (c.in-Err.ensures.overfull.0 refl)
