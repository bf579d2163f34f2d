use Rattle.std.proofs.Common.{◌++◌, ap, map, refl, ◌∙◌}
use Rattle.std.proofs.lemmas.Result.{on_ok_weaker}
use Rattle.served_links.specs.EndLines.{stop_line}
use Rattle.served_links.proofs.ServedLemmas.{map_same}
use Rattle.served_links.proofs.ServedSteps.{asked}
use Rattle.served_links.proofs.served.Served.tell_stopped.Goals as goal

pub returns : goal.returns
returns c =
    on_ok_weaker c.tell_stopped.result
    (λ is. is ∙ ap (λ more. c.args.lines.now.items ++ more)
    (asked c.self.inside c.self.view_is c.self.invariant.0.match c.as_slice.ensures.value (map (stop_line c.args.now))
    (map_same (stop_line c.args.now) (λ h s. refl))))
    c.tell_stopped.ensures
