use Rattle.std.proofs.Common.{ap, ◌∙◌}
use Rattle.aprs_base.specs.declared.events.Happening.TheVariants as did
use Rattle.status_page.specs.PageFronts.{counting}
use Rattle.status_page.specs.contracts.front.PageFront.{the_view}
use Rattle.status_page.proofs.front.PageFront.cast.Goals as goal

pub returns-clause-counted : goal.returns-clause-counted
returns-clause-counted g c =
    ap (λ counts. record (the_view c.self.inside) { counts = counts }) (c.cast-2.ensures c.args.peer c.args.bytes.now)
    ∙ ap (counting (did.Cast c.args.peer c.args.bytes.now)) c.self.view_is
