use Rattle.std.proofs.Common.{ap, sym, ◌∙◌}
use Rattle.worker_match.specs.Seen.{OfferSeen}
use Rattle.worker_match.proofs.AlongLemmas.{placed_taken}
use Rattle.worker_match.proofs.links.LinkFeed.take_placed.Goals as goal

pub returns-then-wants : goal.returns-then-wants
returns-then-wants c =
    placed_taken c.take_lines.result _ c.args.offer.now c.args.self.now c.take_lines.new.self c.requires.line
    (ap (λ (offer : OfferSeen). offer.dupe) (sym c.offer.view_is) ∙ c.if-offer.false) (sym c.wants.ensures ∙ c.if-wants.true)
    c.take_lines.ensures.ok c.take_lines.ensures.within c.take_lines.ensures.counted
