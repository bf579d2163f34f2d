use Rattle.std.proofs.Common.{◌≡◌, Bool, true, false, cond, not, ◌&&◌, refl, ap, ◌∙◌}
use Rattle.std.specs.List.{list_any}
use Rattle.filter_eval.specs.Passes.{is_text}
use Rattle.heard_routing.proofs.listed.Calls.remove.Goals as goal

unless : (a b : Bool) → cond a false b ≡ (not a && b)
unless true b = refl
unless false b = refl

pub returns : goal.returns
returns c = λ text. c.swap_remove.ensures.updates.0 text ∙ unless (is_text c.args.call.now text) _ ∙ ap (λ calls. not (is_text c.args.call.now text) && list_any (is_text text) calls) c.self.view_is
