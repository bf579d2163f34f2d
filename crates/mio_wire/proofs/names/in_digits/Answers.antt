use Rattle.std.proofs.Common.{sym, subst}
use Rattle.std.specs.Net.Grammar.{IsIpv4Text}
use Rattle.aprs_base.specs.UplinkSeen.{UplinkSeen}
use Rattle.mio_wire.proofs.names.in_digits.Goals as goal

pub returns-in-Err-clause-none : goal.returns-in-Err-clause-none
returns-in-Err-clause-none c = λ a written. c.in-Err.ensures a (rw c.as_slice.ensures.value (subst (λ (s : UplinkSeen). IsIpv4Text s.host a) (sym c.spec.view_is) written))
