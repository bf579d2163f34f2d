use Rattle.std.proofs.Common.{◌≡◌, ◌∙◌, true, false, refl}
use Rattle.tnc2_line.proofs.Vias.{via_long, via_off, via_on}
use Rattle.tnc2_line.proofs.reading.read_via.Goals as goal

pub returns-then-text-place : goal.returns-then-text-place
returns-then-text-place c = via_long _ _ c.first_place-place.ensures.place c.first_place-place.ensures.within c.if-text-place.true

pub returns-in_err-call : goal.returns-in_err-call
returns-in_err-call c =
    c.from_residual.ensures ∙ via_off _ _ c.first_place-place.ensures.place c.first_place-place.ensures.within (λ on. let e : false ≡ true = c.in_err-call.ensures.some.1 on in cc)

pub returns : goal.returns
returns c = via_on _ _ c.first_place-place.ensures.place c.first_place-place.ensures.within _ (c.in_ok-call.ensures.some.0 refl) c.in_ok-call.ensures.value c.if-text-place.false
