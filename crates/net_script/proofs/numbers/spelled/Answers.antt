use Rattle.std.proofs.Common.{ℕ, ◌<◌, ◌≤◌, ◌^◌, zero, arith}
use Rattle.std.proofs.Math.Nat.{pow-le-pow_right}
use Rattle.net_script.proofs.numbers.spelled.Goals as goal

-- at most eleven digits were read before the last
short : (n i most : ℕ) → i < most → most ≤ 12 → n < 10 ^ i → n < 100000000000
short n i most less few small =
    let ten : zero < 10 = omega arith in
    let within : i ≤ 11 = omega arith in
    let bound : 10 ^ i ≤ 10 ^ 11 = pow-le-pow_right ten within in
    omega (arith, bound)

pub overflow_mul-number : goal.overflow_mul-number
overflow_mul-number c = let small = short c.loop-digit.number c.loop-digit.digit-index _ c.loop-digit-test.true c.requires.short c.loop-digit.invariant.1 in omega (arith, small)

pub overflow_add-number : goal.overflow_add-number
overflow_add-number c = let small = short c.loop-digit.number c.loop-digit.digit-index _ c.loop-digit-test.true c.requires.short c.loop-digit.invariant.1 in omega (arith, small, c.from.ensures, c.type_inv.digits c.loop-digit.digit-index)
