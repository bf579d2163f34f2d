use Rattle.std.proofs.Common.{◌≡◌, ◌+◌, ◌≤◌, drop, length, le_refl, ap, ◌∙◌, subst, arith}
use Rattle.std.proofs.lemmas.List.{drop_all, length-drop}
use Rattle.mio_wire.specs.Pacing.{line_ends}
use Rattle.mio_wire.proofs.EndLemmas.{ends_below}
use Rattle.mio_wire.proofs.WriteLemmas.{rest_is}
use Rattle.mio_wire.proofs.pace.line_ends.Goals as goal

pub loop-place-preserved : goal.loop-place-preserved
loop-place-preserved c =
    let kept = c.loop-place.invariant in
    let rest = c.loop-place.rest.now in
    let place = c.in-Some.place in
    let within = c.in-Some.ensures.0.high in
    let below = ends_below rest place (omega arith) (λ k lt passes. c.in-Some.ensures.0.before k (omega arith) lt passes) in
    let after = c.past_end-rest.result.now in
    let left = rest_is place rest in
    let one : 1 + line_ends after ≡ line_ends (drop place rest) = c.past_end-rest.ensures.one ∙ ap line_ends left in
    let shorter : 1 + length after ≤ length (drop place rest) = subst (λ xs. 1 + length after ≤ length xs) left c.past_end-rest.ensures.shorter in
    let size = length-drop place rest in
    let fewer = kept.0 in
    let counted = kept.1 in
    (omega arith, omega arith)

pub returns : goal.returns
returns c =
    let kept = c.loop-place.invariant in
    let rest = c.loop-place.rest.now in
    let below = ends_below rest (length rest) (le_refl (length rest)) (λ k lt passes. c.in_default.ensures k (omega arith) lt passes) in
    let none = ap line_ends (drop_all (length rest) rest (le_refl (length rest))) in
    let counted = kept.1 in
    omega arith
