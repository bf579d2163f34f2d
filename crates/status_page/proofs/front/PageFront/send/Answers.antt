use Rattle.std.proofs.Common.{ℕ, [], ◌∷◌, ap, ◌∙◌}
use Rattle.aprs_base.specs.declared.events.Happening.TheVariants as did
use Rattle.aprs_base.specs.declared.events.Sent.TheVariants as sent
use Rattle.status_page.specs.Counting.{counts_after}
use Rattle.status_page.specs.PageFronts.{counting}
use Rattle.status_page.specs.contracts.front.PageFront.{the_view}
use Rattle.status_page.proofs.front.PageFront.send.Goals as goal

pub returns-clause-counted : goal.returns-clause-counted
returns-clause-counted g c =
    let took = λ (n : ℕ). did.Sent c.args.link c.args.bytes.now (sent.Took n) in
    let counted = c.sent.ensures c.args.link c.args.bytes.now ∙ ap (λ n. counts_after c.self.inside.counts (took n ∷ [])) (c.taken.ensures c.args.link c.args.bytes.now) in
    ap (λ counts. record (the_view c.self.inside) { counts = counts }) counted ∙ ap (counting (did.Sent c.args.link c.args.bytes.now c.in_ok-sent.sent)) c.self.view_is
