use Rattle.std.proofs.Common.{ap, sym, true, ◌∙◌}
use Rattle.served_links.specs.Links.{starts_line}
use Rattle.served_links.proofs.ServedSteps.{here_nowhere, here_there, waiting_of, within_feeds, within_here}
use Rattle.served_links.proofs.served.Served.starts_line.Goals as goal

pub place_here-requires : goal.place_here-requires
place_here-requires c = rw c.as_slice.ensures.value c.self.invariant.0.rising

pub at_line_start-requires-clause-settled : goal.at_line_start-requires-clause-settled
at_line_start-requires-clause-settled c = ap waiting_of c.self.view_is ∙ c.requires

pub at_line_start-requires-clause-within : goal.at_line_start-requires-clause-within
at_line_start-requires-clause-within c =
    let hs = c.self.inside.sessions in
    within_feeds c.in-Some.place hs c.self.inside.feeds c.self.invariant.0 (within_here c.args.number c.in-Some.place hs c.as_slice.result.now c.as_slice.ensures.value c.in-Some.ensures)

pub returns-in-Some : goal.returns-in-Some
returns-in-Some c =
    let link = here_there starts_line true c.args.number c.in-Some.place c.self.inside c.as_slice.result.now c.self.view_is c.self.invariant.0 c.as_slice.ensures.value c.in-Some.ensures in
    c.at_line_start.ensures link.state link.there ∙ link.picked

pub returns-in-None : goal.returns-in-None
returns-in-None c = sym (here_nowhere starts_line true c.args.number c.self.inside c.as_slice.result.now c.self.view_is c.self.invariant.0 c.as_slice.ensures.value c.in-None.ensures)
