use Rattle.std.proofs.Common.{◌∙◌}
use Rattle.served_links.specs.Links.{submitted_from}
use Rattle.served_links.proofs.ServedLemmas.{submitted_same}
use Rattle.served_links.proofs.ServedSteps.{asked}
use Rattle.served_links.proofs.served.Served.is_submitted.Goals as goal

pub returns : goal.returns
returns c =
    c.is_submitted.ensures ∙ asked c.self.inside c.self.view_is c.self.invariant.0.match c.as_slice.ensures.value (submitted_from c.args.from.now)
    (submitted_same c.args.from.now)
