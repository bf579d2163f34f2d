use Rattle.std.proofs.Common.{ap, sym, true, ◌∙◌}
use Rattle.served_links.specs.Halves.{ServedSeen}
use Rattle.served_links.specs.Links.{is_whole}
use Rattle.served_links.proofs.HereLemmas.{whole_here}
use Rattle.served_links.proofs.ServedSteps.{waiting_of, swept_same}
use Rattle.served_links.proofs.served.Served.rest.Goals as goal

pub sweep-put-requires-clause-settled : goal.sweep-put-requires-clause-settled
sweep-put-requires-clause-settled c = ap waiting_of c.self.view_is ∙ c.requires

pub sweep-put-requires-clause-halves : goal.sweep-put-requires-clause-halves
sweep-put-requires-clause-halves c = c.self.invariant.0

pub invariant_of-self : goal.invariant_of-self
invariant_of-self c = (
  c.sweep-put.ensures.swept.halves,
  (λ rest. c.sweep-put.ensures.swept.settled, λ rest. ap is_whole c.sweep-put.ensures.here ∙ whole_here c.self.inside.sessions),
)

pub returns : goal.returns
returns c =
    let hs = c.self.inside.sessions in
    let feeds = c.self.inside.feeds in
    ap (λ (s : ServedSeen). record s { rests = true })
    (swept_same hs c.sweep-put.new.sessions feeds c.sweep-put.new.feeds c.sweep-put.result c.self.inside.queued c.saturating_add-self-inside.result c.self.inside.rests
    c.sweep-put.ensures.swept.links c.sweep-put.ensures.swept.put c.saturating_add-self-inside.ensures
    (c.sweep-put.ensures.swept.settled ∙ sym (ap waiting_of c.self.view_is ∙ c.requires))
    ∙ c.self.view_is)
