use Rattle.std.proofs.Common.{arith, drop, ◌∙◌, ap, sym, ◌+◌, ◌≤◌}
use Rattle.std.specs.Prelude.{ℕ}
use Rattle.filter_lang.specs.Sets.{classes, mask_over}
use Rattle.filter_lang.proofs.SetLemmas.{mask_over_step, mask_over-bound, moved}
use Rattle.filter_lang.proofs.sets.mask.Goals as goal

pub overflow_add-mask : goal.overflow_add-mask
overflow_add-mask c =
    let step = mask_over_step c.loop-letter.letter-index c.args.letters.now c.loop-letter-test.true in
    let bound = mask_over-bound classes c.args.letters.now in
    let whole = moved _ _ _ _ _ c.loop-letter.invariant.so_far (step ∙ ap (λ (n : ℕ). n + mask_over (drop (c.loop-letter.letter-index + 1) classes) c.args.letters.now) (sym c.bit_if-mask.ensures)) in
    let small : c.loop-letter.mask + c.bit_if-mask.result ≤ 1023 = omega arith in
    omega arith

pub loop-letter-preserved : goal.loop-letter-preserved
loop-letter-preserved c =
    let step = mask_over_step c.loop-letter.letter-index c.args.letters.now c.loop-letter-test.true in
    record {
      so_far = moved _ _ _ _ _ c.loop-letter.invariant.so_far (step ∙ ap (λ (n : ℕ). n + mask_over (drop (c.loop-letter.letter-index + 1) classes) c.args.letters.now) (sym c.bit_if-mask.ensures));
      items = c.loop-letter.invariant.items;
    }
