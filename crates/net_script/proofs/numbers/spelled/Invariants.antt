use Rattle.std.proofs.Common.{◌≡◌, ◌<◌, ◌^◌, drop}
use Rattle.login_pass.specs.Login.{number_from}
use Rattle.net_script.proofs.numbers.spelled.Given as goal

-- the digits that are left complete the number, which has as many digits as were read
abbrev pub invariant-loop-digit : goal.invariant-loop-digit
invariant-loop-digit l = (number_from l.number (drop l.digit-index l.digits) ≡ number_from 0 l.digits) × (l.number < 10 ^ l.digit-index)
