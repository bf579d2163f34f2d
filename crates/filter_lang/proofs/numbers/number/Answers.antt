use Rattle.std.proofs.Common.{arith}
use Rattle.std.proofs.Common.{◌≡◌, length}
use Rattle.std.proofs.Math.Seq.{take-length}
use Rattle.filter_lang.proofs.NumberLemmas.{digit_at, value_more, value_small, value_bound}
use Rattle.filter_lang.proofs.numbers.number.Goals as goal

pub overflow_mul-value : goal.overflow_mul-value
overflow_mul-value c = let small = value_small c.args.digits.now c.loop-digit.digit-index c.requires.digits c.requires.short in omega arith

pub overflow_add-value : goal.overflow_add-value
overflow_add-value c =
    let small = value_small c.args.digits.now c.loop-digit.digit-index c.requires.digits c.requires.short in
    let digit = digit_at c.args.digits.now c.loop-digit.digit-index c.requires.digits c.loop-digit-test.true in
    omega (arith, c.loop-digit.invariant)

pub loop-digit-preserved : goal.loop-digit-preserved
loop-digit-preserved c =
    let more = value_more c.args.digits.now c.loop-digit.digit-index c.requires.digits c.loop-digit-test.true in
    rw (more, ← c.loop-digit.invariant, c.from.ensures)

pub returns-clause-bound : goal.returns-clause-bound
returns-clause-bound c =
    let all : c.loop-digit.digit-index ≡ length c.args.digits.now = omega arith in
    rw (c.loop-digit.invariant, all, take-length c.args.digits.now) (value_bound c.args.digits.now c.requires.digits)
