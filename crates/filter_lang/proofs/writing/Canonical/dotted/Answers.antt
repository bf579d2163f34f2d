use Rattle.std.proofs.Common.{ℕ, List, [], ◌∷◌, ◌++◌, refl, ◌∙◌, ap, sym, append-nil, drop}
use Rattle.filter_lang.specs.Numbers.{places}
use Rattle.filter_lang.proofs.WriteLemmas.{dotted_put, fraction_put, fraction_small, fraction_zero, places_some}
use Rattle.filter_lang.proofs.writing.Canonical.dotted.Goals as goal

pub loop-place-init : goal.loop-place-init
loop-place-init c = record {
  so_far = dotted_put c.args.self.now c.push.new.self.items c.args.millionths c.if-millionths-eq0.false (c.in_ok-push.ensures.items ∙ ap (λ (t : List ℕ). t ++ 46 ∷ []) c.self.view_is);
  small = λ h. c.requires;
  items = refl;
}

pub loop-place-preserved : goal.loop-place-preserved
loop-place-preserved c = record {
  so_far = fraction_put c.loop-place.self-inside.text.items _ c.loop-place.place-index c.loop-place.rest c.loop-place-test.true c.if-rest-eq0.false c.in_ok-push-2.ensures.items ∙ c.loop-place.invariant.so_far;
  small = λ h. fraction_small c.loop-place.place-index c.loop-place.rest h (places_some c.loop-place.place-index c.loop-place-test.true);
  items = c.loop-place.invariant.items;
}

pub returns-then-rest-eq0 : goal.returns-then-rest-eq0
returns-then-rest-eq0 c =
    let none = fraction_zero (drop c.loop-place.place-index places) in
    let whole = rw c.if-rest-eq0.true at c.loop-place.invariant.so_far in
    sym (append-nil c.loop-place.self-inside.text.items) ∙ rw none at whole
