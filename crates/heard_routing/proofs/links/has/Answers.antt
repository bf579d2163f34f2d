use Rattle.std.proofs.Common.{ap, ◌∙◌, slice_get}
use Rattle.filter_eval.specs.Passes.{is_some_and}
use Rattle.heard_routing.specs.Entries.{is_of}
use Rattle.heard_routing.proofs.LinkLemmas.{found_there}
use Rattle.heard_routing.proofs.links.has.Goals as goal

pub returns : goal.returns
returns c = λ up.
    c.is_at.ensures ∙ ap (λ place. is_some_and (is_of c.args.link) (slice_get c.args.entries.now place)) (c.place_of.ensures.place up) ∙ found_there c.args.link c.args.entries.now up
