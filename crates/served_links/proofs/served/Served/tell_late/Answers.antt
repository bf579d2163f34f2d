use Rattle.std.proofs.Common.{◌++◌, ap, map, refl, ◌∙◌, filter}
use Rattle.std.proofs.lemmas.Result.{on_ok_weaker}
use Rattle.served_links.specs.Links.{is_late_link}
use Rattle.served_links.specs.EndLines.{late_line}
use Rattle.served_links.proofs.ServedLemmas.{passing_same}
use Rattle.served_links.proofs.ServedSteps.{asked}
use Rattle.served_links.proofs.HereLemmas.{here_and}
use Rattle.served_links.proofs.served.Served.tell_late.Goals as goal

pub returns : goal.returns
returns c =
    on_ok_weaker c.tell_late.result
    (λ is. is ∙ ap (λ more. c.args.lines.now.items ++ more)
    (ap (map (late_line c.args.now)) (here_and (is_late_link c.args.timeouts c.args.now) c.as_slice.result.now)
    ∙ asked c.self.inside c.self.view_is c.self.invariant.0.match c.as_slice.ensures.value (λ links. map (late_line c.args.now) (filter (is_late_link c.args.timeouts c.args.now) links))
    (passing_same (late_line c.args.now) (λ h s. refl) (is_late_link c.args.timeouts c.args.now) (λ h s. refl))))
    c.tell_late.ensures
