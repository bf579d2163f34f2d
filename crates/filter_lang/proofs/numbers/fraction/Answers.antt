use Rattle.std.proofs.Common.{arith, drop}
use Rattle.filter_lang.specs.Numbers.{places}
use Rattle.filter_lang.proofs.NumberLemmas.{fraction_step, fraction_end, digits_step, fraction_of-bound}
use Rattle.filter_lang.proofs.numbers.fraction.Goals as goal

pub overflow_add-value : goal.overflow_add-value
overflow_add-value c =
    let step = fraction_step c.loop-place.place-index c.loop-place.rest.now c.loop-place-test.true c.in-len1-up.len_at_least in
    let bound = fraction_of-bound places c.args.digits.now c.requires in
    let sum = c.loop-place.invariant.so_far in
    rw c.from.ensures (omega arith)

pub loop-place-preserved : goal.loop-place-preserved
loop-place-preserved c =
    let step = fraction_step c.loop-place.place-index c.loop-place.rest.now c.loop-place-test.true c.in-len1-up.len_at_least in
    record {
      so_far = rw c.from.ensures (let sum = c.loop-place.invariant.so_far in omega arith);
      digits = digits_step c.loop-place.rest.now c.in-len1-up.len_at_least c.loop-place.invariant.digits;
      items = c.loop-place.invariant.items;
    }

pub returns-in_default-clause-value : goal.returns-in_default-clause-value
returns-in_default-clause-value c =
    let end = fraction_end (drop c.loop-place.place-index places) c.loop-place.rest.now c.in_default.len_below in
    let sum = c.loop-place.invariant.so_far in
    omega arith

pub returns-in_default-clause-bound : goal.returns-in_default-clause-bound
returns-in_default-clause-bound c =
    let bound = fraction_of-bound places c.args.digits.now c.requires in
    let sum = c.loop-place.invariant.so_far in
    omega arith
