use Rattle.std.proofs.Common.{sym, ap, cond, Some, None}
use Rattle.login_pass.specs.Login.{number_from}
use Rattle.aprs_conf.proofs.NumberLemmas.{too_great}
use Rattle.aprs_conf.proofs.arguments.short_number.Goals as goal

pub returns-then-number-gt-LONGEST : goal.returns-then-number-gt-LONGEST
returns-then-number-gt-LONGEST c =
    let great = too_great c.loop-digit.number 10000000 c.loop-digit.digit-index c.args.digits.now c.from.result c.loop-digit-test.true c.from.ensures c.loop-digit.invariant.0 c.if-number-gt-LONGEST.true in
    sym (ap (λ b. cond b (Some (number_from 0 c.args.digits.now)) None) great)
