use Rattle.std.specs.Arc.{arc_value}
use Rattle.served_links.specs.Changes.{with_text}
use Rattle.server_core.proofs.CoreLemmas.{kept_risen, risen_by}
use Rattle.server_core.proofs.FollowLemmas.{text_number}
use Rattle.server_core.proofs.server.State.reply.Goals as goal

pub invariant_of-self : goal.invariant_of-self
invariant_of-self c =
    kept_risen _ c.reply.new.self
    (risen_by c.reply.result c.in-Link.number (with_text (arc_value c.in_ok-line-in-Link.line)) c.self.inside.links c.reply.new.self c.self.inside.greatest (λ link. text_number (arc_value c.in_ok-line-in-Link.line) link)
    c.reply.ensures.err c.reply.ensures.ok c.self.invariant.rising) c.self.invariant
