use Rattle.std.proofs.Common.{◌≡◌, ap, length, sym, ◌∙◌, false, refl}
use Rattle.std.specs.Arc.{arc_value}
use Rattle.std.specs.List.{list_any}
use Rattle.served_links.specs.Fed.{shows_kept}
use Rattle.served_links.specs.Halves.{more}
use Rattle.served_links.proofs.ServedLemmas.{any_same}
use Rattle.served_links.proofs.ServedSteps.{asked, none_more, none_shown, none_taken}
use Rattle.served_links.proofs.HereLemmas.{shows_here}
use Rattle.served_links.proofs.served.Served.show.Goals as goal

hidden : (c : goal.Else-shows_any) → list_any shows_kept c.args.self.now.links ≡ false
hidden c =
    sym (asked c.self.inside c.self.view_is c.self.invariant.0.match c.as_slice.ensures.value (list_any shows_kept) (any_same shows_kept (λ h s. refl)))
    ∙ shows_here c.as_slice.result.now
    ∙ sym c.shows_any.ensures
    ∙ c.if-shows_any.false

pub returns-else-shows_any-clause-ok : goal.returns-else-shows_any-clause-ok
returns-else-shows_any-clause-ok c = (
  none_shown (arc_value c.args.packet.now).from (arc_value c.args.packet.now).line c.args.self.now.links (hidden c),
  sym (ap (λ ls. more (length ls) c.args.self.now.queued) (none_taken (arc_value c.args.packet.now).from (arc_value c.args.packet.now).line c.args.self.now.links (hidden c)) ∙ none_more c.self.inside.sessions c.self.inside.feeds c.self.inside.queued c.self.inside.rests c.args.self.now c.self.view_is),
  refl,
)
