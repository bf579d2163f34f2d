use Rattle.std.specs.Arc.{arc_value}
use Rattle.std.proofs.Common.{refl}
use Rattle.std.proofs.lemmas.Bool.{false≢true}
use Rattle.worker_match.proofs.PushLemmas.{text_fits, text_over}
use Rattle.worker_match.proofs.links.LinkFeed.push.Goals as goal

pub returns-in-Err : goal.returns-in-Err
returns-in-Err c = text_over (arc_value c.args.line) _ c.args.self.now c.push.new.self c.self.view_is c.in-Err.ensures.err (c.in-Err.ensures.overfull.0 refl)

pub returns-in_default : goal.returns-in_default
returns-in_default c =
    text_fits (arc_value c.args.line) _ c.args.self.now c.push.new.self c.self.view_is c.in_default.ensures.ok (λ full. false≢true (c.in_default.ensures.overfull.1 full))
